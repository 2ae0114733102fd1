pub mod EffectLemmas
pub mod SideLemmas
