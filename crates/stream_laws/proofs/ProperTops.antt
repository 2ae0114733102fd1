-- An element is proper exactly where some stream has it as a top element.
use Rattle.std.proofs.Common.{ℕ, ◌+◌, ◌<◌, ◌^◌, List, [], ◌++◌, length, sym, subst, true, arith}
use Rattle.std.proofs.lemmas.List.Elements.{All-contains, All-from_recursion, Contains-push}
use Rattle.std.specs.List.{All, Contains}
use Rattle.stanza_tree.specs.declared.node.Element.{Element}
use Rattle.stanza_tree.specs.Spelling.{text}
use Rattle.stream_grammar.specs.declared.rules.Rules.{Rules}
use Rattle.stream_grammar.specs.grammar.Trees.{RawTag, Content, nothing}
use Rattle.stream_grammar.specs.grammar.Items.{HasCome}
use Rattle.stream_grammar.specs.grammar.Elements.{tops_of, IsNamed}
use Rattle.stream_grammar.specs.grammar.Proper.{IsProper}
use Rattle.stream_grammar.specs.grammar.RoundTrips.{end_tag_of, bare_header, bare_root, IsTop}
use Rattle.stream_laws.proofs.ProperStreams.{tops-proper, come-proper}
use Rattle.stream_laws.proofs.RoundTripInsert.{written-reads, short-writable, bare-comes, bare-named, bare-default}

pub top-proper : (e : Element) → IsTop e → IsProper e
top-proper e (r, bytes, s, spells, named, has) =
    All-contains IsProper (tops_of s.root s.content) e (All-from_recursion IsProper (tops_of s.root s.content) (tops-proper r bytes s spells named)) has

-- rules that are wide enough
wide : Element → Rules
wide e = record { depth = length (text e) + 2; attributes = length (text e) + 2; loose = true }

pub proper-top : (e : Element) → IsProper e → length (text e) < 2 ^ 64 → IsTop e
unfolding wide
proper-top e proper fits =
    let bytes : List ℕ = bare_header ++ text e ++ end_tag_of bare_root in
    let (s, spells, same, named, tops) = written-reads (wide e) bare_header bare_root nothing e (bare-comes (wide e) (omega arith)) bare-named bare-default
    (short-writable (wide e) e proper fits (omega arith) (omega arith)) in
    (wide e, bytes, s, spells, named, subst (λ (l : List Element). Contains l e) (sym tops) (Contains-push [] e))

pub come-all : (r : Rules) (bytes : List ℕ) (root : RawTag) (f : Content) → HasCome r bytes root f → IsNamed root f → All IsProper (tops_of root f)
come-all r bytes root f come named = All-from_recursion IsProper (tops_of root f) (come-proper r bytes root f come named)
