mod LineLemmas
mod BookLemmas
mod ListLemmas
mod CutLemmas
mod WrittenLemmas
mod LocalLemmas
mod ReadLemmas
