use Rattle.stream_laws.proofs.ScopeFaults.{name_refused, name_kept, encoding_breaks}
use Rattle.stream_laws.proofs.Faultless.{faultless_goes}
use Rattle.stream_laws.proofs.laws.name_faults_are_those_of_the_scope.Goals as goal

pub returns-clause-refused : goal.returns-clause-refused
returns-clause-refused c = λ l bytes b path t x clean past begins ends is. name_refused l bytes b path t x (faultless_goes l bytes clean) past begins ends is

pub returns-clause-kept : goal.returns-clause-kept
returns-clause-kept c = λ l bytes b path t clean past begins ends none large. name_kept l bytes b path t (faultless_goes l bytes clean) past begins ends none
    large

pub returns-clause-encodings : goal.returns-clause-encodings
returns-clause-encodings c = λ l bytes b k clean e begins. encoding_breaks l bytes b k (faultless_goes l bytes clean) e begins
