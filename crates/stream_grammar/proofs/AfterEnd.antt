-- What the lexical layer makes of white space after the end of the stream.
use Rattle.std.proofs.Common.{◌≡◌, ℕ, ◌⊎◌, inl, inr, List, refl, sym, subst, Bool, true, false, ◌==◌, ◌||◌}
use Rattle.std.proofs.lemmas.Bool.{eqb-true}
use Rattle.stream_lex.specs.declared.Token.{Token}
use Rattle.stream_lex.specs.declared.stages.Context.TheVariants.{Words}
use Rattle.stream_lex.specs.declared.stages.Stage.TheVariants as stage
use Rattle.stream_lex.specs.declared.stages.State.{State}
use Rattle.stream_lex.specs.declared.characters.Pending.TheVariants as pending
use Rattle.stream_lex.specs.grammar.Kinds.{ascii_kind}
use Rattle.stream_lex.specs.machine.Machine.{ascii}
use Rattle.stream_lex.specs.machine.Turns.{leads, at, turn_ascii, turn}
use Rattle.stream_lex.specs.machine.Live.{is_live}
use Rattle.stream_grammar.specs.grammar.Trees.{is_space}
use Rattle.stream_grammar.specs.machine.Telling.{are_words}

-- words, after a carriage return or not
abbrev pub after_end : Bool → State
after_end r = at (stage.Text Words) pending.Nothing r

-- white space leads to such, and tells words
abbrev pub Spaced : Bool → ℕ → Type 0
Spaced ret b = (ret1 : Bool) × (us : List Token) × (turn (after_end ret) b ≡ leads (after_end ret1) us) × (are_words us ≡ true)

spaced-32 : (ret : Bool) → Spaced ret 32
unfolding turn_ascii ascii_kind ascii
spaced-32 true = (false, _, refl, refl)
spaced-32 false = (false, _, refl, refl)

spaced-10 : (ret : Bool) → Spaced ret 10
unfolding turn_ascii ascii_kind ascii
spaced-10 true = (false, _, refl, refl)
spaced-10 false = (false, _, refl, refl)

spaced-9 : (ret : Bool) → Spaced ret 9
unfolding turn_ascii ascii_kind ascii
spaced-9 true = (false, _, refl, refl)
spaced-9 false = (false, _, refl, refl)

spaced-13 : (ret : Bool) → Spaced ret 13
unfolding turn_ascii ascii_kind ascii
spaced-13 true = (true, _, refl, refl)
spaced-13 false = (true, _, refl, refl)

or-cases : (s t : Bool) → (s || t) ≡ true → (s ≡ true) ⊎ (t ≡ true)
or-cases true t e = inl refl
or-cases false t e = inr e

pub spaced : (ret : Bool) (b : ℕ) → is_space b ≡ true → Spaced ret b
spaced ret b h = elim (or-cases (b == 32) ((b == 10) || ((b == 9) || (b == 13))) h) [
  | inl e ↦ subst (Spaced ret) (sym (eqb-true b 32 e)) (spaced-32 ret)
  | inr g ↦ elim (or-cases (b == 10) ((b == 9) || (b == 13)) g) [
    | inl e ↦ subst (Spaced ret) (sym (eqb-true b 10 e)) (spaced-10 ret)
    | inr k ↦ elim (or-cases (b == 9) (b == 13) k) [
      | inl e ↦ subst (Spaced ret) (sym (eqb-true b 9 e)) (spaced-9 ret)
      | inr e ↦ subst (Spaced ret) (sym (eqb-true b 13 e)) (spaced-13 ret)
    ]
  ]
]

pub end-live : (r : Bool) → is_live (after_end r) ≡ true
unfolding is_live
end-live true = refl
end-live false = refl
