mod CutLemmas
mod GrammarLemmas
mod NumberLemmas
mod OptionLemmas
mod WantedLemmas
