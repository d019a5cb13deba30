pub mod Csr
