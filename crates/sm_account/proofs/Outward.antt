-- What is carried and handled, against what is queued.
use Rattle.std.proofs.Common.{◌≡◌, ℕ, ◌+◌, ◌≤◌, List, [], ◌∷◌, ◌++◌, length, take, drop, Some, refl, sym, ap}
use Rattle.std.proofs.Common.{◌∙◌, append_assoc, length-append, take-append-drop, arith}
use Rattle.std.proofs.Math.Seq.{drop-append_seam}
use Rattle.std.proofs.lemmas.Grind.{common_steps}
use Rattle.std.specs.Prelude.{slice_get}
use Rattle.stanza_tree.specs.declared.frame.Entry.{Entry}
use Rattle.sm_account.specs.Connections.{Connection}
use Rattle.sm_account.proofs.Lists.{next_after}
use Rattle.sm_account.specs.Accounts.{total, handled_on}
use Rattle.sm_account.specs.Prefixes.{IsPrefixOf}

-- `queued` is what was queued before the session counted, what was handled on the earlier connections, what the present
-- one carried, and the rest. The client last said that it handled `said`.
pub record Outward {S : Type 0} (handles : ℕ → ℕ) (queued : List Entry) (kept sent base : ℕ) (carried : List Entry)
    (earlier : List (Connection S)) (said : ℕ) : Type 0 where
  pub before : List Entry
  pub rest : List Entry
  pub whole : queued ≡ before ++ (handled_on handles earlier ++ (carried ++ rest))
  pub base_is : base ≡ length before
  pub joined : length (handled_on handles earlier) ≡ total handles earlier
  pub sent_is : sent ≡ length before + (total handles earlier + length carried)
  pub kept_is : kept ≡ length before + said
  pub said_carried : said ≤ total handles earlier + length carried
  pub said_handled : said ≤ total handles earlier + handles (length earlier)

-- the session begins to count
pub starts : {S : Type 0} (handles : ℕ → ℕ) (queued : List Entry) (sent : ℕ) → sent ≤ length queued
    → Outward {S = S} handles queued sent sent sent [] [] 0
starts handles queued sent low = record {
  before = take sent queued;
  rest = drop sent queued;
  whole = sym (take-append-drop sent queued);
  base_is = grind (arith, common_steps);
  joined = refl;
  sent_is = grind (arith, common_steps);
  kept_is = grind (arith, common_steps);
  said_carried = omega arith;
  said_handled = omega arith;
}

-- what a connection carried is what was handled of it and the others
joins : (xs ys rest : List Entry) (k : ℕ) → xs ++ (ys ++ rest) ≡ (xs ++ take k ys) ++ (drop k ys ++ rest)
joins xs ys rest k =
    let whole : take k ys ++ drop k ys ≡ ys = take-append-drop k ys in
    let moved : take k ys ++ (drop k ys ++ rest) ≡ ys ++ rest =
    sym (append_assoc (take k ys) (drop k ys) rest) ∙ ap (λ (l : List Entry). l ++ rest) whole in
    ap (λ (l : List Entry). xs ++ l) (sym moved) ∙ sym (append_assoc xs (take k ys) (drop k ys ++ rest))

module _ {S : Type 0} {handles : ℕ → ℕ} {queued : List Entry} {kept sent base : ℕ} {carried : List Entry}
    {earlier : List (Connection S)} {said : ℕ} (o : Outward handles queued kept sent base carried earlier said) where
  pub pushes : (x : Entry) → Outward handles (queued ++ x ∷ []) kept sent base carried earlier said
  pushes x = record {
    before = o.before;
    rest = o.rest ++ x ∷ [];
    whole = rw o.whole (simp append_assoc);
    base_is = o.base_is;
    joined = o.joined;
    sent_is = o.sent_is;
    kept_is = o.kept_is;
    said_carried = o.said_carried;
    said_handled = o.said_handled;
  }

  pulls_first : (x : Entry) (ys : List Entry) → o.rest ≡ x ∷ ys
      → Outward handles queued kept (sent + 1) base (carried ++ x ∷ []) earlier said
  pulls_first x ys first = record {
    before = o.before;
    rest = ys;
    whole = o.whole ∙ rw first (simp append_assoc);
    base_is = o.base_is;
    joined = o.joined;
    sent_is = simp length-append (omega (arith, o.sent_is));
    kept_is = o.kept_is;
    said_carried = simp length-append (omega (arith, o.said_carried));
    said_handled = o.said_handled;
  }

  -- what is sent next is the first of the rest
  pub pulls : (x : Entry) → slice_get queued sent ≡ Some x
      → Outward handles queued kept (sent + 1) base (carried ++ x ∷ []) earlier said
  pulls x is =
      let front : List Entry = o.before ++ (handled_on handles earlier ++ carried) in
      let long : sent ≡ length front = simp length-append (omega (arith, o.sent_is, o.joined)) in
      let split : queued ≡ front ++ o.rest = o.whole ∙ simp append_assoc in
      let tail = next_after queued front o.rest sent x split long is in
      pulls_first x tail.0 tail.1

  -- the client says how much it handled
  pub says : (v : ℕ) → v ≤ total handles earlier + length carried → v ≤ total handles earlier + handles (length earlier)
      → Outward handles queued (base + v) sent base carried earlier v
  says v low high = record {
    before = o.before;
    rest = o.rest;
    whole = o.whole;
    base_is = o.base_is;
    joined = o.joined;
    sent_is = o.sent_is;
    kept_is = omega (arith, o.base_is);
    said_carried = low;
    said_handled = high;
  }

module _ {S : Type 0} {handles : ℕ → ℕ} {queued : List Entry} {kept sent base said : ℕ} (c : Connection S)
    {earlier : List (Connection S)} (o : Outward handles queued kept sent base c.carried earlier said) where
  -- how many of its entries were handled, and how many of all
  abbrev here : ℕ
  here = handles (length earlier)

  abbrev handled_now : ℕ
  handled_now = total handles earlier + here

  abbrev left : List Entry
  left = drop here c.carried ++ o.rest

  split : queued ≡ o.before ++ (handled_on handles (c ∷ earlier) ++ left)
  split = o.whole ∙ ap (λ (l : List Entry). o.before ++ l) (joins (handled_on handles earlier) c.carried o.rest here)

  -- the next connection begins after what was handled
  pub opens : here ≤ length c.carried
      → Outward handles queued (base + handled_now) (base + handled_now) base [] (c ∷ earlier) handled_now
  opens within = record {
    before = o.before;
    rest = left;
    whole = split;
    base_is = o.base_is;
    joined =
        let long : length (take here c.carried) ≡ here = grind (arith, common_steps) in
        simp length-append (omega (arith, o.joined));
    sent_is = omega (arith, o.base_is);
    kept_is = omega (arith, o.base_is);
    said_carried = omega arith;
    said_handled = omega arith;
  }

  -- what was handled is a prefix of what was queued since the session counts
  pub prefix : IsPrefixOf (handled_on handles (c ∷ earlier)) (drop base queued)
  prefix = (left, sym (rw (split, o.base_is) (drop-append_seam o.before _)))
