use Rattle.std.proofs.Common.{◌≡◌, ◌+◌, ◌<◌, length, None, map, drop, ◌∷◌, sym, ap, ap₂, Vec, Global, ◌∙◌, rules}
use Rattle.std.proofs.lemmas.List.{drop_more}
use Rattle.serve_words.proofs.OptionLemmas.{after_some, one-more}
use Rattle.serve_words.specs.Options.{options, set_of}
use Rattle.serve_words.specs.declared.option.Given.{Given}
use Rattle.serve_words.proofs.words.options.Goals as goal
use Rattle.serve_words.proofs.words.options.Goals.{in-Whole+in_ok-push-in-Whole, in-Waits}

pub returns-in-Neither-clause-refused : goal.returns-in-Neither-clause-refused
returns-in-Neither-clause-refused c =
    let i = c.loop-word.word-index in
    let words = c.args.words.now in
    let front = map set_of c.loop-word.given.items in
    let below : i < length words = search rules in
    let next : drop i words ≡ c.text_of.result.now ∷ drop (i + 1) words =
    drop_more words i c.word-item.result below ∙ ap (λ n. n ∷ drop (i + 1) words) (sym c.word-item.is ∙ sym c.text_of.ensures) in
    c.loop-word.invariant ∙ ap (λ l. after_some front (options c.loop-word.waits l)) next ∙ ap (after_some front) (c.in-Neither.ensures (drop (i + 1) words))

pub loop-word-preserved : goal.loop-word-preserved
loop-word-preserved c =
    let i = c.loop-word.word-index in
    let words = c.args.words.now in
    let front = map set_of c.loop-word.given.items in
    let below : i < length words = search rules in
    let next : drop i words ≡ c.text_of.result.now ∷ drop (i + 1) words =
    drop_more words i c.word-item.result below ∙ ap (λ n. n ∷ drop (i + 1) words) (sym c.word-item.is ∙ sym c.text_of.ensures) in
    let so_far = c.loop-word.invariant ∙ ap (λ l. after_some front (options c.loop-word.waits l)) next in
    let rest = drop (i + 1) words in
    elim c.match-meet.branch [
      | in-Whole+in_ok-push-in-Whole w ↦
          let items = ap (λ (v : Vec Given Global). v.items) w.given-is ∙ w.in_ok-push-in-Whole.ensures.items in
          so_far ∙ ap (after_some front) (w.in-Whole.ensures rest) ∙ one-more c.loop-word.given.items w.in-Whole.one (options None rest)
          ∙ sym (ap₂ (λ items waits. after_some (map set_of items) (options waits rest)) items w.waits-is)
      | in-Waits w ↦
          so_far ∙ ap (after_some front) (w.in-Waits.ensures rest)
          ∙ sym (ap₂ (λ (v : Vec Given Global) waits. after_some (map set_of v.items) (options waits rest)) w.given-is w.waits-is)
    ]
