-- The frames of answers, and the request for an acknowledgement.
use Rattle.std.specs.Prelude.{ℕ, List, ◌++◌, codes, Option, Some, None}
use Rattle.std.specs.Fmt.{decimal}
use Rattle.stanza_tree.specs.Spelling.{value_text, words_text}
use Rattle.sm_resume.specs.Spelling.{spelling}
use Rattle.sm_resume.specs.declared.id.ResumeId.{ResumeId}
use Rattle.house_model.specs.Gate.{patience_seconds}
use Rattle.house_model.specs.declared.answer.Answer.{Answer}
use Rattle.house_model.specs.declared.answer.Answer.TheVariants.{Bound, Refused, Unexpected, NotFound, Enabled, Resumed, Counted}

-- RFC 6120, 7.6.1: the result that names the session's address
abbrev pub bound_text : List ℕ → List ℕ → List ℕ
bound_text id jid =
    codes "<iq id='" ++ value_text id ++ codes "' type='result'><bind xmlns='urn:ietf:params:xml:ns:xmpp-bind'><jid>"
    ++ words_text jid ++ codes "</jid></bind></iq>"

-- RFC 6120, 7.6.2.1: the user has too many sessions, or the server has
abbrev pub refused_text : List ℕ → List ℕ
refused_text id =
    codes "<iq id='" ++ value_text id
    ++ codes "' type='error'><error type='wait'><resource-constraint xmlns='urn:ietf:params:xml:ns:xmpp-stanzas'/></error></iq>"

-- XEP-0198, 3 and 5: a request that is not taken, with its condition
abbrev pub failed_text : List ℕ → List ℕ
failed_text condition =
    codes "<failed xmlns='urn:xmpp:sm:3'><" ++ condition ++ codes " xmlns='urn:ietf:params:xml:ns:xmpp-stanzas'/></failed>"

-- XEP-0198, 3: with an id the session can be resumed, for so many seconds after its connection was lost
abbrev pub enabled_text : Option ResumeId → List ℕ
enabled_text None = codes "<enabled xmlns='urn:xmpp:sm:3'/>"
enabled_text (Some id) =
    codes "<enabled xmlns='urn:xmpp:sm:3' id='" ++ spelling id ++ codes "' max='" ++ decimal patience_seconds ++ codes "' resume='true'/>"

-- XEP-0198, 5
abbrev pub resumed_text : ℕ → ResumeId → List ℕ
resumed_text h id = codes "<resumed xmlns='urn:xmpp:sm:3' h='" ++ decimal h ++ codes "' previd='" ++ spelling id ++ codes "'/>"

-- XEP-0198, 4
abbrev pub counted_text : ℕ → List ℕ
counted_text h = codes "<a xmlns='urn:xmpp:sm:3' h='" ++ decimal h ++ codes "'/>"

abbrev pub request_text : List ℕ
request_text = codes "<r xmlns='urn:xmpp:sm:3'/>"

abbrev pub answer_text : Answer → List ℕ
answer_text (Bound id jid) = bound_text id jid
answer_text (Refused id) = refused_text id
answer_text Unexpected = failed_text (codes "unexpected-request")
answer_text NotFound = failed_text (codes "item-not-found")
answer_text (Enabled id) = enabled_text id
answer_text (Resumed h id) = resumed_text h id
answer_text (Counted h) = counted_text h
