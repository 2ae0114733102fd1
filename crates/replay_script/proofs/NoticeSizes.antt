-- The stanza of a `note` line of few bytes is not too long.
use Rattle.std.proofs.Common.{◌≡◌, ℕ, ◌+◌, ◌*◌, ◌≤◌, List, [], ◌∷◌, length, codes, ap, arith, length-append}
use Rattle.stanza_tree.specs.Spelling.{client_space, text, text_under, texts_under, words_text}
use Rattle.stanza_tree.specs.declared.node.Element.{Element}
use Rattle.stanza_tree.specs.declared.node.Node.{Node}
use Rattle.stanza_tree.specs.declared.node.Node.TheOpen.{Child, Words}
use Rattle.stanza_tree.specs.declared.node.Node.TheViews.{roll-Node, out-roll-Node}
use Rattle.stanza_tree.proofs.Bounds.{length-value_text-le, length-words_text-le}
use Rattle.stanza_tree.proofs.SpellingLemmas.{texts-words}
use Rattle.house_model.proofs.ReplySizes.{first-length, plain-attributes, plain-declared, under-le}
use Rattle.replay_script.specs.Notices.{body_of, notice, plain_attr}

words-length : (w : List ℕ) → length (texts_under client_space (roll-Node (Words w) ∷ [])) ≤ 6 * length w
words-length w =
    omega (
      arith,
      length-words_text-le w,
      ap length (texts-words client_space (roll-Node (Words w)) [] w (out-roll-Node (Words w))),
      length-append (words_text w) [],
    )

body-length : (w : List ℕ) → length w ≤ 16000 → length (text_under client_space (body_of w)) ≤ 96100
body-length w few = omega (arith, under-le client_space client_space (codes "body") [] (roll-Node (Words w) ∷ []), words-length w)

-- an address and words of 16,000 bytes each fit, six bytes for one
pub notice_small : (address words : List ℕ) → length address ≤ 16000 → length words ≤ 16000 → length (text (notice address words)) ≤ 196608
notice_small address words first second =
    omega (
      arith,
      under-le client_space client_space (codes "message")
          (plain_attr (codes "to") address ∷ plain_attr (codes "type") (codes "headline") ∷ []) (roll-Node (Child (body_of words)) ∷ []),
      plain-attributes (codes "to") address (plain_attr (codes "type") (codes "headline") ∷ []),
      plain-attributes (codes "type") (codes "headline") [],
      ap length (plain-declared (codes "to") address (plain_attr (codes "type") (codes "headline") ∷ [])),
      ap length (plain-declared (codes "type") (codes "headline") []),
      length-value_text-le address,
      length-value_text-le (codes "headline"),
      first-length client_space (body_of words) [],
      body-length words second,
    )
