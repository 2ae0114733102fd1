use Rattle.std.proofs.Common.{map, string_bytes, sym, ap, subst, ◌∙◌}
use Rattle.std.proofs.lemmas.Result.{IfErr-weaker, IfOk-weaker}
use Rattle.account_book.specs.Fields.{on}
use Rattle.clap.specs.Words.{found_of, rows_of, takes}
use Rattle.serve_words.specs.Grammars.{grammar, said_of}
use Rattle.serve_words.specs.Options.{IsRefusal, wanted_by}
use Rattle.serve_words.proofs.GrammarLemmas.{are-taken}
use Rattle.serve_words.proofs.WantedLemmas.{as-read, seven-words}
use Rattle.serve_words.proofs.words.read_said.Goals as goal

pub returns-clause-refused : goal.returns-clause-refused
returns-clause-refused c =
    let are = ap (map string_bytes) c.as_slice.ensures
    ∙ seven-words (said_of c.args.given.now) _ _ _ _ _ _ _ c.in_ok-word_of.ensures c.in_ok-word_of-2.ensures c.in_ok-word_of-3.ensures
    c.in_ok-word_of-4.ensures c.in_ok-word_of-5.ensures c.in_ok-word_of-6.ensures c.in_ok-word_of-7.ensures in
    subst (λ s. IsRefusal (wanted_by (said_of c.args.given.now)) s)
    (sym (c.in-Err.ensures.taken (ap (takes grammar) are ∙ are-taken _ _ _ _ _ _ _))) tt

pub returns-in-Ok-clause-found : goal.returns-in-Ok-clause-found
returns-in-Ok-clause-found c =
    let are = ap (map string_bytes) c.as_slice.ensures
    ∙ seven-words (said_of c.args.given.now) _ _ _ _ _ _ _ c.in_ok-word_of.ensures c.in_ok-word_of-2.ensures c.in_ok-word_of-3.ensures
    c.in_ok-word_of-4.ensures c.in_ok-word_of-5.ensures c.in_ok-word_of-6.ensures c.in_ok-word_of-7.ensures in
    let same = ap (λ read. on read wanted_by) (as-read (said_of c.args.given.now) (rows_of (found_of c.in-Ok.matches)) _ are c.in-Ok.ensures.matches) in
    IfOk-weaker c.read_matches.result _ _ (λ serving found. sym same ∙ found) c.read_matches.ensures.found

pub returns-in-Ok-clause-refused : goal.returns-in-Ok-clause-refused
returns-in-Ok-clause-refused c =
    let are = ap (map string_bytes) c.as_slice.ensures
    ∙ seven-words (said_of c.args.given.now) _ _ _ _ _ _ _ c.in_ok-word_of.ensures c.in_ok-word_of-2.ensures c.in_ok-word_of-3.ensures
    c.in_ok-word_of-4.ensures c.in_ok-word_of-5.ensures c.in_ok-word_of-6.ensures c.in_ok-word_of-7.ensures in
    let same = ap (λ read. on read wanted_by) (as-read (said_of c.args.given.now) (rows_of (found_of c.in-Ok.matches)) _ are c.in-Ok.ensures.matches) in
    IfErr-weaker c.read_matches.result _ _ (λ s refused. subst (λ read. IsRefusal read s) same refused) c.read_matches.ensures.refused
