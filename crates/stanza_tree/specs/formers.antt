pub mod several
