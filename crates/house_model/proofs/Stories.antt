-- The story is legal, and its client counts.
use Rattle.std.proofs.Common.{◌≡◌, inl, inr, ℕ, zero, suc, ◌+◌, ◌≤◌, [], ◌∷◌, length, Some, refl, sym, subst, arith}
use Rattle.std.specs.Prelude.{slice_get}
use Rattle.stanza_model.specs.declared.condition.Condition.{Condition}
use Rattle.stanza_model.specs.declared.kinds.Kind.{Kind}
use Rattle.stanza_model.specs.declared.stanza.Stanza.{Stanza}
use Rattle.sm_counters.specs.Numbers.{number, number_among}
use Rattle.house_model.specs.Histories.{Legal, IsOpening}
use Rattle.house_model.specs.Lines.{arrivals, acted}
use Rattle.house_model.specs.Accounts.{IsAccountOf, LineFits}
use Rattle.house_model.specs.Story.{small_house, faulty, until_lost, whole_story, her_account}

pub story_starts : IsOpening small_house
story_starts = (_, _, _, _, refl)

pub story_legal : (k : Kind) (c : Condition) → Legal small_house (whole_story (faulty k c))
unfolding number number_among
story_legal k c = (
  record { line = omega arith; meets = tt; outcome = (refl, refl) },
  (
    record { line = omega arith; meets = tt; outcome = (refl, refl) },
    (
      record { line = omega arith; meets = omega arith; outcome = (refl, refl) },
      (
        record { line = omega arith; meets = tt; outcome = (refl, refl) },
        (
          record { line = omega arith; meets = inr tt; outcome = (refl, refl) },
          (
            record { line = omega arith; meets = tt; outcome = (refl, refl) },
            (
              record { line = omega arith; meets = tt; outcome = (refl, refl) },
              (
                record { line = omega arith; meets = tt; outcome = (refl, refl) },
                (record { line = omega arith; meets = tt; outcome = (refl, refl) }, tt),
              ),
            ),
          ),
        ),
      ),
    ),
  ),
)

pub story_acted : (k : Kind) (c : Condition)
    → acted small_house (whole_story (faulty k c)) 1 ≡ faulty k c ∷ []
story_acted k c = refl

some_is : (n c : ℕ) → Some n ≡ Some c → c ≡ n
some_is n c is = sym (cc)

module _ (k : Kind) (e : Condition) (y : Stanza) where
  line_fits : (i c : ℕ) → slice_get (1 ∷ 2 ∷ []) i ≡ Some c
      → LineFits (her_account (faulty k e) y) small_house (whole_story (faulty k e)) 1 i c
  line_fits zero c is =
      subst (LineFits (her_account (faulty k e) y) small_house (whole_story (faulty k e)) 1 0)
      (sym (some_is 1 c is)) (record { within = omega arith; in_order = (y ∷ [], refl) })
  line_fits (suc zero) c is =
      subst (LineFits (her_account (faulty k e) y) small_house (whole_story (faulty k e)) 1 1)
      (sym (some_is 2 c is)) (record { within = omega arith; in_order = (y ∷ [], refl) })
  line_fits (suc (suc i)) c is = absurd (cc)

  sent_by : (j c : ℕ) → slice_get (1 ∷ []) j ≡ Some c
      → (her_account (faulty k e) y).begins j + length (arrivals small_house (until_lost (faulty k e)) 1 c) ≤ 2
  sent_by zero c is =
      subst (λ (n : ℕ). 0 + length (arrivals small_house (until_lost (faulty k e)) 1 n) ≤ 2) (sym (some_is 1 c is))
      (omega arith)
  sent_by (suc j) c is = absurd (cc)

  story_account : IsAccountOf (her_account (faulty k e) y) small_house (whole_story (faulty k e)) 1
  unfolding number number_among
  story_account = record {
    first = refl;
    lines = line_fits;
    turns = (
      0,
      refl,
      (
        0,
        refl,
        (
          0,
          refl,
          (
            0,
            refl,
            (
              0,
              (refl, λ is. is),
              (
                0,
                refl,
                (
                  0,
                  refl,
                  (
                    0,
                    refl,
                    (
                      0,
                      (
                        record {
                          counts = refl;
                          known = inl refl;
                          sent = sent_by;
                          has = omega arith;
                          near = omega arith;
                          begins = refl;
                        },
                        refl,
                      ),
                      tt,
                    ),
                  ),
                ),
              ),
            ),
          ),
        ),
      ),
    );
  }

pub her_story : (k : Kind) (e : Condition) (y : Stanza)
    → IsAccountOf (her_account (faulty k e) y) small_house (whole_story (faulty k e)) 1
her_story k e y = story_account k e y
