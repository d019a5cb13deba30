pub mod Exchange
pub mod ExchangeMirror
pub mod ExchangeUnique
pub mod TypedLaws
pub mod SendingLaws
pub mod ExchangeLaws
pub mod ExchangeAtRestLaws
