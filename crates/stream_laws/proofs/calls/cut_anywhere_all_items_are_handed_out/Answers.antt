use Rattle.std.proofs.Common.{List, [], sym, ◌∙◌, subst, append-nil}
use Rattle.std.specs.Prelude.{◌++◌, option_to_list}
use Rattle.stream_grammar.specs.machine.Reading.{first_reading, waiting}
use Rattle.stream_grammar.specs.machine.Calls.{bytes_taken}
use Rattle.stream_grammar.specs.grammar.ItemLists.{AreItems, to_fault}
use Rattle.stream_laws.proofs.CallLemmas.{all_handed, all_asked, none_left, fed-bytes, stands_there}
use Rattle.stream_laws.proofs.calls.cut_anywhere_all_items_are_handed_out.Goals as goal

pub returns-clause-all : goal.returns-clause-all
returns-clause-all c = λ l calls items t fed. all_handed l calls items t fed

pub returns-clause-asked : goal.returns-clause-asked
returns-clause-asked c = λ l calls next items t fed. all_asked l calls next items t fed

pub returns-clause-none_left : goal.returns-clause-none_left
returns-clause-none_left c = λ l calls items t fed none. none_left l calls items t fed none

pub returns-clause-joined : goal.returns-clause-joined
returns-clause-joined c = λ l calls items t bytes rest fed by. fed-bytes calls l first_reading t items bytes rest fed by

pub returns-clause-whole : goal.returns-clause-whole
returns-clause-whole c = λ l calls items t bytes fed by.
    subst (λ (x : List _). AreItems l x (to_fault (items ++ option_to_list (waiting t))))
    (sym (fed-bytes calls l first_reading t items bytes [] fed by ∙ append-nil (bytes_taken calls))) (all_handed l calls items t fed)

pub returns-clause-stands : goal.returns-clause-stands
returns-clause-stands c = λ l calls items t fed. stands_there l calls items t fed
