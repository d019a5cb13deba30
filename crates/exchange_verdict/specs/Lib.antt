pub mod ExchangeVerdict
