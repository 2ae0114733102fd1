-- After the top elements of a stream, the text of a proper element is one more; and an end tag ends the stream.
use Rattle.std.proofs.Common.{◌≡◌, ℕ, ◌+◌, ◌<◌, ◌≤◌, ◌^◌, List, [], ◌∷◌, ◌++◌, length, refl, sym, ap, ◌∙◌, subst}
use Rattle.std.proofs.Common.{append_assoc, append-nil, Bool, true, false, not, arith, codes}
use Rattle.std.proofs.lemmas.Bool.{cond_both}
use Rattle.std.specs.List.{AllByRecursion}
use Rattle.std.specs.Prelude.{if◌then◌else◌, bytes_eq, ◌||◌, ◌&&◌, Option, Some, None}
use lib.Utf8.{encode}
use Rattle.stanza_tree.specs.declared.node.Element.{Element}
use Rattle.stanza_tree.specs.Spelling.{text, client_space}
use Rattle.stream_lex.specs.declared.Token.{Token}
use Rattle.stream_lex.specs.declared.Token.TheVariants as token
use Rattle.stream_lex.specs.declared.stages.Stage.TheVariants as stage
use Rattle.stream_lex.specs.declared.stages.State.{State}
use Rattle.stream_lex.specs.grammar.Kinds.{ascii_kind}
use Rattle.stream_lex.specs.machine.Machine.{ascii, in_name, in_tag}
use Rattle.stream_lex.specs.machine.Turns.{turn_ascii}
use Rattle.stream_lex.specs.machine.Live.{is_live}
use Rattle.stream_lex.specs.grammar.Reading.{Reads}
use Rattle.stream_lex.proofs.Lists.{false-true}
use Rattle.stream_grammar.specs.declared.namespaces.Binding.{Binding}
use Rattle.stream_grammar.specs.declared.namespaces.NameFault.{NameFault}
use Rattle.stream_grammar.specs.declared.namespaces.NameFault.TheVariants as fault
use Rattle.stream_grammar.specs.declared.namespaces.Written.{Written}
use Rattle.stream_grammar.specs.declared.rules.Rules.{Rules}
use Rattle.stream_grammar.specs.grammar.Trees.{RawTag, Content, nothing, word, element, hollow, tag_tokens, content_tokens}
use Rattle.stream_grammar.specs.grammar.Trees.{end_tokens, declaration_tokens, stream_tokens, levels, Keeps}
use Rattle.stream_grammar.specs.grammar.Streams.{Spells}
use Rattle.stream_grammar.specs.grammar.Items.{head_tokens, HasCome}
use Rattle.stream_grammar.specs.grammar.Namespaces.{xml_space, prefix_of, is_unbound, has_unbound, is_bound_to, has_twins, tag_fault}
use Rattle.stream_grammar.specs.grammar.Namespaces.{is_declaration, declared_prefix, last_space, last_layer, space_of, own}
use Rattle.stream_grammar.specs.grammar.Namespaces.{may_declare, is_forbidden, has_forbidden, space_before}
use Rattle.stream_grammar.specs.grammar.Resolving.{or_none}
use Rattle.stream_grammar.specs.grammar.Tags.{written, whole_tag}
use Rattle.stream_grammar.specs.grammar.Elements.{tops_of, inside_of, element_with, nodes_on, elements_on}
use Rattle.stream_grammar.specs.grammar.Elements.{fault_of_tag, AreNamed, outside_all, default_of, IsNamed}
use Rattle.stream_grammar.specs.grammar.Proper.{IsProper}
use Rattle.stream_grammar.specs.grammar.RoundTrips.{HasMore, IsReadBack, IsWritable, texts_of, end_tag_of, bare_header, bare_root}
use Rattle.stream_grammar.proofs.Whole.{first-sound, first-left}
use Rattle.stream_laws.proofs.ProperLexing.{head-read}
use Rattle.stream_laws.proofs.RoundTripRuns.{Runs, RunsLast, last-then, last-told, between}
use Rattle.stream_laws.proofs.RoundTripText.{Gap, plain, gap_stage}
use Rattle.stream_laws.proofs.RoundTripTags.{gap_state, end-runs}
use Rattle.stream_laws.proofs.RoundTripSpaces.{same-bytes}
use Rattle.stream_laws.proofs.RoundTripScopes.{Under}
use Rattle.stream_laws.proofs.RoundTripElements.{front, front_tokens, front-tokens, NamedIn, nodes_in, KeptIn, levels_in, IsSpelt, proper-spelt, proper-short}
use Rattle.stream_laws.proofs.RoundTripStreams.{read-runs, ends-gap, first_state, last-read}

-- Content and then more.

abbrev pub then_content : Content → Content → Content
then_content nothing g = g
then_content (word c f) g = word c (then_content f g)
then_content (element t h f) g = element t h (then_content f g)
then_content (hollow t f) g = hollow t (then_content f g)

regroup-element : (t g e f R : List Token) → t ++ (g ++ (e ++ (f ++ R))) ≡ (t ++ (g ++ (e ++ f))) ++ R
regroup-element t g e f R = simp append_assoc

pub then-tokens : (f g : Content) → content_tokens (then_content f g) ≡ content_tokens f ++ content_tokens g
then-tokens nothing g = refl
then-tokens (word c f) g = ap (λ (l : List Token). token.Word c ∷ l) (then-tokens f g)
then-tokens (element t h f) g =
    ap (λ (l : List Token). tag_tokens t false ++ (content_tokens h ++ (end_tokens t.name ++ l))) (then-tokens f g)
    ∙ regroup-element (tag_tokens t false) (content_tokens h) (end_tokens t.name) (content_tokens f) (content_tokens g)
then-tokens (hollow t f) g = ap (λ (l : List Token). tag_tokens t true ++ l) (then-tokens f g)
    ∙ sym (append_assoc (tag_tokens t true) (content_tokens f) (content_tokens g))

then-named : (L : List (List Binding)) (f g : Content) → AreNamed L f → AreNamed L g → AreNamed L (then_content f g)
then-named L nothing g a b = b
then-named L (word c f) g a b = then-named L f g a b
then-named L (element t h f) g a b = (a.0, (a.1.0, then-named L f g a.1.1 b))
then-named L (hollow t f) g a b = (a.0, then-named L f g a.1 b)

then-elements : (L : List (List Binding)) (f g : Content) → elements_on L (then_content f g) ≡ elements_on L f ++ elements_on L g
then-elements L nothing g = refl
then-elements L (word c f) g = then-elements L f g
then-elements L (element t h f) g =
    ap (λ (l : List Element). element_with (inside_of L (whole_tag t)) (whole_tag t) (nodes_on (inside_of L (whole_tag t)) [] h) ∷ l) (then-elements L f g)
then-elements L (hollow t f) g = ap (λ (l : List Element). element_with (inside_of L (whole_tag t)) (whole_tag t) [] ∷ l) (then-elements L f g)

then-keeps : (r : Rules) (top : Bool) (f g : Content) → Keeps r top f → Keeps r top g → Keeps r top (then_content f g)
then-keeps r top nothing g a b = b
then-keeps r top (word c f) g a b = (a.0, then-keeps r top f g a.1 b)
then-keeps r top (element t h f) g a b = (a.0, a.1, then-keeps r top f g a.2 b)
then-keeps r top (hollow t f) g a b = (a.0, then-keeps r top f g a.1 b)

then-levels : (d : ℕ) (f g : Content) → levels f ≤ d → levels g ≤ d → levels (then_content f g) ≤ d
then-levels d nothing g a b = b
then-levels d (word c f) g a b = then-levels d f g a b
then-levels d (element t h f) g a b = let k = then-levels d f g (omega arith) b in omega arith
then-levels d (hollow t f) g a b = let k = then-levels d f g (omega arith) b in omega arith

-- What is bound in a stream.

space-some : (s : List ℕ) (l : List Binding) (p : List ℕ) → (t : List ℕ) × (last_space (Some s) l p ≡ Some t)
space-some s [] p = (s, refl)
space-some s (b ∷ bs) p = cond_both (bytes_eq b.prefix p) (Some b.space) (Some s) (λ (o : Option (List ℕ)). (t : List ℕ) × (last_space o bs p ≡ Some t))
    (λ e. space-some b.space bs p) (λ e. space-some s bs p)

root-default : (l : List Binding) (s : List ℕ) → or_none (space_of (l ∷ []) []) ≡ s → last_layer (space_before []) (l ∷ []) [] ≡ Some s
root-default l s e = let (t, f) = space-some [] l [] in f ∙ ap (λ (x : List ℕ). Some x) (sym (ap or_none f) ∙ e)

pub allowed : (s t : Bool) → (s && not t) ≡ false → s ≡ true → t ≡ true
allowed true true h e = refl
allowed true false h e = false-true (sym h)
allowed false t h e = false-true e

-- the prefix xml stays what it is
xml-stays : (ws : List Written) → has_forbidden ws ≡ false → last_space (Some xml_space) (own ws) (codes "xml") ≡ Some xml_space
xml-stays [] h = refl
xml-stays (w ∷ ws) h =
    let (fair, more) = cut (is_forbidden w) (has_forbidden ws) h in
    cond_both (is_declaration w.name) (record { prefix = declared_prefix w.name; space = w.value } ∷ own ws) (own ws)
    (λ (l : List Binding). last_space (Some xml_space) l (codes "xml") ≡ Some xml_space)
    (λ d. ap (λ (o : Option (List ℕ)). last_space o (own ws) (codes "xml")) (kept fair d) ∙ xml-stays ws more)
    (λ d. xml-stays ws more)
  where
    cut : (s t : Bool) → (if s then true else t) ≡ false → (s ≡ false) × (t ≡ false)
    cut true t h = false-true (sym h)
    cut false t h = (refl, h)

    kept : is_forbidden w ≡ false → is_declaration w.name ≡ true
        → (if bytes_eq (declared_prefix w.name) (codes "xml") then Some w.value else Some xml_space) ≡ Some xml_space
    kept fair d = cond_both (bytes_eq (declared_prefix w.name) (codes "xml")) (Some w.value) (Some xml_space) (λ (o : Option (List ℕ)). o ≡ Some xml_space)
        (λ e. ap (λ (x : List ℕ). Some x) (declared_xml fair d e)) (λ e. refl)
      where
        declared_xml : is_forbidden w ≡ false → is_declaration w.name ≡ true → bytes_eq (declared_prefix w.name) (codes "xml") ≡ true → w.value ≡ xml_space
        declared_xml fair d e =
            let name : declared_prefix w.name ≡ codes "xml" = same-bytes (declared_prefix w.name) (codes "xml") e in
            let may : may_declare (declared_prefix w.name) w.value ≡ true =
            allowed (is_declaration w.name) (may_declare (declared_prefix w.name) w.value) fair d in
            same-bytes w.value xml_space (sym (ap (λ (p : List ℕ). may_declare p w.value) name) ∙ may)

-- a tag without a fault by its names
pub record IsSoundTag (L : List (List Binding)) (name : List ℕ) (ws : List Written) : Type 0 where
  pub bound : is_unbound (space_of L (prefix_of name)) ≡ false
  pub all_bound : has_unbound L ws ≡ false
  pub element : is_bound_to (space_of L (prefix_of name)) xml_space ≡ false
  pub declared : has_forbidden ws ≡ false
  pub distinct : has_twins L ws ≡ false

pub sound-tag : (L : List (List Binding)) (name : List ℕ) (ws : List Written) → tag_fault L name ws ≡ None → IsSoundTag L name ws
sound-tag L name ws e =
    let (unbound, wrong) = both fault.BadPrefix fault.NotWellFormed (is_unbound (space_of L (prefix_of name)) || has_unbound L ws)
    (is_bound_to (space_of L (prefix_of name)) xml_space || (has_forbidden ws || has_twins L ws)) e in
    let (a, b) = or-parts (is_unbound (space_of L (prefix_of name))) (has_unbound L ws) unbound in
    let (c, d) = or-parts (is_bound_to (space_of L (prefix_of name)) xml_space) (has_forbidden ws || has_twins L ws) wrong in
    let (f, g) = or-parts (has_forbidden ws) (has_twins L ws) d in
    record { bound = a; all_bound = b; element = c; declared = f; distinct = g }
  where
    or-parts : (s t : Bool) → (s || t) ≡ false → (s ≡ false) × (t ≡ false)
    or-parts true t h = false-true (sym h)
    or-parts false t h = (refl, h)

    both : (x y : NameFault) (p q : Bool) → (if p then Some x else (if q then Some y else None)) ≡ None → (p ≡ false) × (q ≡ false)
    both x y true q h = absurd (let bad : Some x ≡ None = h in cc)
    both x y false true h = absurd (let bad : Some y ≡ None = h in cc)
    both x y false false h = (refl, refl)

pub root-under : (root : RawTag) (s : List ℕ) → fault_of_tag outside_all (whole_tag root) ≡ None → default_of root ≡ s
    → Under (inside_of outside_all (whole_tag root)) s
root-under root s sound e =
    let t : IsSoundTag (inside_of outside_all (whole_tag root)) (root.name.0 ∷ root.name.1) (written root.attributes) =
    sound-tag (inside_of outside_all (whole_tag root)) (root.name.0 ∷ root.name.1) (written root.attributes) sound in
    (root-default (own (written root.attributes)) s e, xml-stays (written root.attributes) t.declared)

-- One element more.

regroup-head : (d t f e : List Token) → d ++ (t ++ (f ++ e)) ≡ (d ++ (t ++ f)) ++ e
regroup-head d t f e = simp append_assoc

head-more : (d : Bool) (root : RawTag) (f : Content) (t : RawTag) (b : Option Content)
    → head_tokens d root f ++ front_tokens t b ≡ head_tokens d root (then_content f (front t b nothing))
head-more d root f t b =
    sym (ap (λ (l : List Token). declaration_tokens d ++ (tag_tokens root false ++ l)) (then-tokens f (front t b nothing)
    ∙ ap (λ (l : List Token). content_tokens f ++ l) (front-tokens t b nothing ∙ append-nil (front_tokens t b)))
    ∙ regroup-head (declaration_tokens d) (tag_tokens root false) (content_tokens f) (front_tokens t b))

live-first : (r : Rules) → is_live first_state ≡ true
live-first r = (first-sound r).live

pub come-runs : (r : Rules) (bytes : List ℕ) (d : Bool) (root : RawTag) (f : Content) → Reads bytes (head_tokens d root f)
    → (g : Gap) × (c : Bool) × Runs first_state bytes (gap_state g c) (head_tokens d root f)
come-runs r bytes d root f reads =
    let (to, run, live, done) = read-runs bytes first_state (head_tokens d root f) (live-first r) (first-left bytes (head_tokens d root f) reads) in
    let (g, c, is) = ends-gap to live done in
    (g, c, subst (λ (s : State). Runs first_state bytes s (head_tokens d root f)) is run)

front-named : (L : List (List Binding)) (parent : List ℕ) (e : Element) (s : IsSpelt L parent e) → AreNamed L (front s.tag s.body nothing)
front-named L parent e s = by s.body s.sound s.inner_sound
  where
    by : (b : Option Content) → fault_of_tag L (whole_tag s.tag) ≡ None → NamedIn (inside_of L (whole_tag s.tag)) b → AreNamed L (front s.tag b nothing)
    by None f i = (f, tt)
    by (Some g) f i = (f, (i, tt))

front-elements : (L : List (List Binding)) (parent : List ℕ) (e : Element) (s : IsSpelt L parent e) → elements_on L (front s.tag s.body nothing) ≡ e ∷ []
front-elements L parent e s = by s.body ∙ ap (λ (x : Element). x ∷ []) s.is
  where
    by : (b : Option Content)
        → elements_on L (front s.tag b nothing) ≡ element_with (inside_of L (whole_tag s.tag)) (whole_tag s.tag) (nodes_in (inside_of L (whole_tag s.tag)) b)
        ∷ []
    by None = refl
    by (Some g) = refl

front-keeps : (r : Rules) (t : RawTag) (b : Option Content) → KeptIn r t b → Keeps r true (front t b nothing)
front-keeps r t None k = (k, tt)
front-keeps r t (Some g) k = (k.0, k.1, tt)

front-levels : (t : RawTag) (b : Option Content) → levels (front t b nothing) ≤ levels_in b + 1
front-levels t None = omega arith
front-levels t (Some g) = omega arith

one-more : (r : Rules) (bytes : List ℕ) (root : RawTag) (f : Content) (e : Element) → HasCome r bytes root f → IsNamed root f → default_of root ≡ client_space
    → IsProper e → length (text e) < 2 ^ 64
    → ((s : IsSpelt (inside_of outside_all (whole_tag root)) client_space e) → (levels_in s.body + 1 ≤ r.depth) × KeptIn r s.tag s.body)
    → HasMore r (bytes ++ text e) root f (e ∷ [])
one-more r bytes root f e (d, reads, short, keeps) named default proper fits allows =
    let L : List (List Binding) = inside_of outside_all (whole_tag root) in
    let s : IsSpelt L client_space e = proper-spelt e proper L client_space (root-under root client_space named.0 default) fits in
    let (g, c, run) = come-runs r bytes d root f reads in
    let last : RunsLast first_state (bytes ++ text e) (between (gap_stage plain)) (head_tokens d root (then_content f (front s.tag s.body nothing))) =
    last-told (head-more d root f s.tag s.body) (last-then run (s.runs g c)) in
    let (reads_more, short_more) = last-read (bytes ++ text e) (head_tokens d root (then_content f (front s.tag s.body nothing))) (live-first r) last in
    let (deep, kept) = allows s in (
      then_content f (front s.tag s.body nothing),
      (
        d,
        reads_more,
        short_more,
        (
          keeps.0,
          then-levels r.depth f (front s.tag s.body nothing) keeps.1 (let k = front-levels s.tag s.body in omega arith),
          then-keeps r true f
              (front s.tag s.body nothing) keeps.2 (front-keeps r s.tag s.body kept),
        ),
      ),
      (named.0, then-named L f (front s.tag s.body nothing) named.1 (front-named L client_space e s)),
      then-elements L f (front s.tag s.body nothing) ∙ ap (λ (l : List Element). elements_on L f ++ l) (front-elements L client_space e s),
    )

pub written-comes : (r : Rules) (bytes : List ℕ) (root : RawTag) (f : Content) (e : Element) → HasCome r bytes root f → IsNamed root f
    → default_of root ≡ client_space → IsWritable r e
    → HasMore r (bytes ++ text e) root f (e ∷ [])
written-comes r bytes root f e come named default (proper, fits, deep, wide) =
    one-more r bytes root f e come named default proper fits (λ s. let k = s.shallow in (omega arith, s.narrow r wide))

-- The end tag of a stream.

pub come-ends : (r : Rules) (bytes : List ℕ) (root : RawTag) (f : Content) → HasCome r bytes root f
    → (d : Bool) × Spells r (bytes ++ end_tag_of root) (record { declared = d; root = root; content = f })
come-ends r bytes root f (d, reads, short, keeps) =
    let (g, c, run) = come-runs r bytes d root f reads in
    let ts : List Token = stream_tokens (record { declared = d; root = root; content = f }) in
    let last : RunsLast first_state (bytes ++ end_tag_of root) (between (gap_stage plain)) ts =
    last-told (sym (regroup-head (declaration_tokens d) (tag_tokens root false) (content_tokens f) (end_tokens root.name)))
    (last-then run (end-runs g c root.name (head-read bytes d root f reads).0.0)) in
    let (reads_all, short_all) = last-read (bytes ++ end_tag_of root) ts (live-first r) last in
    (d, (bytes ++ end_tag_of root, [], sym (append-nil (bytes ++ end_tag_of root)), tt, (reads_all, short_all, keeps)))

more-reads : (r : Rules) (bytes : List ℕ) (root : RawTag) (f : Content) (es : List Element) → HasMore r bytes root f es
    → IsReadBack r (bytes ++ end_tag_of root) root f es
more-reads r bytes root f es (g, more, is, tops) = let (d, spells) =
    come-ends r bytes root g more in (record { declared = d; root = root; content = g }, spells, refl, is, tops)

pub written-reads : (r : Rules) (bytes : List ℕ) (root : RawTag) (f : Content) (e : Element) → HasCome r bytes root f → IsNamed root f
    → default_of root ≡ client_space → IsWritable r e
    → IsReadBack r (bytes ++ text e ++ end_tag_of root) root f (e ∷ [])
written-reads r bytes root f e come named default writable =
    more-reads r (bytes ++ text e) root f (e ∷ []) (written-comes r bytes root f e come named default writable)

pub short-writable : (r : Rules) (e : Element) → IsProper e → length (text e) < 2 ^ 64 → length (text e) ≤ r.depth → length (text e) ≤ r.attributes
    → IsWritable r e
short-writable r e proper fits deep wide = let (d, w) = proper-short e proper client_space in (proper, fits, omega arith, omega arith)

-- Several texts.
pub all-come : (r : Rules) (es : List Element) (bytes : List ℕ) (root : RawTag) (f : Content) → HasCome r bytes root f → IsNamed root f
    → default_of root ≡ client_space → AllByRecursion (IsWritable r) es
    → HasMore r (bytes ++ texts_of es) root f es
all-come r [] bytes root f come named default all =
    (f, subst (λ (l : List ℕ). HasCome r l root f) (sym (append-nil bytes)) come, named, sym (append-nil (tops_of root f)))
all-come r (e ∷ es) bytes root f come named default all =
    let (g, more, is, tops) = written-comes r bytes root f e come named default all.0 in
    let (h, last, are, all_tops) = all-come r es (bytes ++ text e) root g more is default all.1 in (
      h,
      subst (λ (l : List ℕ). HasCome r l root h) (append_assoc bytes (text e) (texts_of es)) last,
      are,
      all_tops ∙ (ap (λ (l : List Element). l ++ es) tops ∙ append_assoc (tops_of root f) (e ∷ []) es),
    )

pub all-read : (r : Rules) (es : List Element) (bytes : List ℕ) (root : RawTag) (f : Content) → HasCome r bytes root f → IsNamed root f
    → default_of root ≡ client_space → AllByRecursion (IsWritable r) es
    → IsReadBack r (bytes ++ texts_of es ++ end_tag_of root) root f es
all-read r es bytes root f come named default all = more-reads r (bytes ++ texts_of es) root f es (all-come r es bytes root f come named default all)

-- A stream with a bare header.

bare-runs : RunsLast first_state bare_header (between (gap_stage plain)) (head_tokens false bare_root nothing)
unfolding turn_ascii ascii_kind ascii in_name in_tag
bare-runs = record {
  front = codes "<stream:stream xmlns='jabber:client' xmlns:stream='http://etherx.jabber.org/streams'";
  byte = 62;
  state = between stage.ValueEnded;
  told = _;
  last = token.TagEnds false;
  text = refl;
  way = record { leads_so = refl };
  step = refl;
  tokens = refl;
}

pub bare-comes : (r : Rules) → 2 ≤ r.attributes → HasCome r bare_header bare_root nothing
bare-comes r h = let (reads, short) =
    last-read bare_header (head_tokens false bare_root nothing) (live-first r) bare-runs in (false, reads, short, (h, omega arith, tt))

pub bare-named : IsNamed bare_root nothing
unfolding encode
bare-named = (refl, tt)

pub bare-default : default_of bare_root ≡ client_space
unfolding encode
bare-default = refl
