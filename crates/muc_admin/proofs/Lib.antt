pub mod ItemLemmas
