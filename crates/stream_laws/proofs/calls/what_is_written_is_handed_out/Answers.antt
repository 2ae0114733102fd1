use Rattle.std.proofs.lemmas.List.Elements.{recursion_from_All}
use Rattle.stream_laws.specs.Written.{IsWithin}
use Rattle.stream_laws.proofs.HandedLemmas.{written_waits, written_last, written_faultless, written_taken, all_written}
use Rattle.stream_laws.proofs.calls.what_is_written_is_handed_out.Goals as goal

pub returns-clause-waits : goal.returns-clause-waits
returns-clause-waits c = λ l bytes root f e come named default clean within. written_waits l bytes root f e (come, named, default, clean) within

pub returns-clause-none_before : goal.returns-clause-none_before
returns-clause-none_before c = λ l bytes root f e xs ys come named default clean within p some more. written_last l bytes root f e xs ys
    (come, named, default, clean) within p some more

pub returns-clause-faultless : goal.returns-clause-faultless
returns-clause-faultless c = λ l bytes root f e come named default clean within. written_faultless l bytes root f e (come, named, default, clean) within

pub returns-clause-taken : goal.returns-clause-taken
returns-clause-taken c = λ l bytes root f e more come named default clean within. written_taken l bytes root f e more (come, named, default, clean) within

pub returns-clause-items : goal.returns-clause-items
returns-clause-items c = λ l bytes root f es before come named default clean within are.
    (all_written l es bytes root f before (come, named, default, clean) (recursion_from_All (IsWithin l) es within) are).1
