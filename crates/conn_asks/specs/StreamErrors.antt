-- Stream errors (RFC 6120, 4.9), and which of them tells how a connection ended.
use Rattle.std.specs.Prelude.{ℕ, List, [], ◌++◌, codes, Option, Some, None}
use Rattle.std.specs.Fmt.{decimal}
use Rattle.sm_resume.specs.declared.decision.Cause.{Cause}
use Rattle.sm_resume.specs.declared.decision.Cause.TheVariants as cause
use Rattle.stream_grammar.specs.declared.FrameFault.{FrameFault}
use Rattle.stream_grammar.specs.declared.FrameFault.TheVariants as fault
use Rattle.conn_asks.specs.declared.ended.Ended.{Ended}
use Rattle.conn_asks.specs.declared.ended.Ended.TheVariants as ended
use Rattle.conn_asks.specs.declared.ended.HeaderFault.{HeaderFault}
use Rattle.conn_asks.specs.declared.ended.HeaderFault.TheVariants as header
use Rattle.conn_asks.specs.declared.ended.ItemFault.{ItemFault}
use Rattle.conn_asks.specs.declared.ended.ItemFault.TheVariants as item
use Rattle.conn_asks.specs.declared.stream_error.StreamError.{StreamError}
use Rattle.conn_asks.specs.declared.stream_error.StreamError.TheVariants.{BadFormat, BadNamespacePrefix, Conflict, ConnectionTimeout}
use Rattle.conn_asks.specs.declared.stream_error.StreamError.TheVariants.{HostUnknown, InvalidFrom, InvalidNamespace, NotAuthorized}
use Rattle.conn_asks.specs.declared.stream_error.StreamError.TheVariants.{NotWellFormed, PolicyViolation, ResourceConstraint, RestrictedXml}
use Rattle.conn_asks.specs.declared.stream_error.StreamError.TheVariants.{UnsupportedEncoding, UnsupportedStanzaType, UnsupportedVersion}
use Rattle.conn_asks.specs.declared.stream_error.StreamError.TheVariants.{HandledCountTooHigh}

-- RFC 6120, 4.9.3: the names of the conditions
abbrev pub condition_name : StreamError → List ℕ
condition_name BadFormat = codes "bad-format"
condition_name BadNamespacePrefix = codes "bad-namespace-prefix"
condition_name Conflict = codes "conflict"
condition_name ConnectionTimeout = codes "connection-timeout"
condition_name HostUnknown = codes "host-unknown"
condition_name InvalidFrom = codes "invalid-from"
condition_name InvalidNamespace = codes "invalid-namespace"
condition_name NotAuthorized = codes "not-authorized"
condition_name NotWellFormed = codes "not-well-formed"
condition_name PolicyViolation = codes "policy-violation"
condition_name ResourceConstraint = codes "resource-constraint"
condition_name RestrictedXml = codes "restricted-xml"
condition_name UnsupportedEncoding = codes "unsupported-encoding"
condition_name UnsupportedStanzaType = codes "unsupported-stanza-type"
condition_name UnsupportedVersion = codes "unsupported-version"
condition_name (HandledCountTooHigh h sent) = codes "undefined-condition"

-- XEP-0198, 4: the client's count, and what was sent
unfoldable pub too_high_text : ℕ → ℕ → List ℕ
too_high_text h sent = codes "<handled-count-too-high xmlns='urn:xmpp:sm:3' h='" ++ decimal h ++ codes "' send-count='" ++ decimal sent ++ codes "'/>"

-- RFC 6120, 4.9.4: the condition of an application, which only a count that is too high has
abbrev pub application_text : StreamError → List ℕ
application_text (HandledCountTooHigh h sent) = too_high_text h sent
application_text e = []

-- RFC 6120, 4.9.2 and 4.9.4
unfoldable pub error_text : StreamError → List ℕ
error_text e = codes "<stream:error><" ++ condition_name e ++ codes " xmlns='urn:ietf:params:xml:ns:xmpp-streams'/>" ++ application_text e
    ++ codes "</stream:error>"

-- what is wrong with the bytes of a stream
abbrev pub error_of_fault : FrameFault → StreamError
error_of_fault fault.NotWellFormed = NotWellFormed
error_of_fault fault.Restricted = RestrictedXml
error_of_fault fault.BadPrefix = BadNamespacePrefix
error_of_fault fault.BadFormat = BadFormat
error_of_fault fault.TooLong = PolicyViolation
error_of_fault fault.TooDeep = PolicyViolation
error_of_fault fault.TooManyAttrs = PolicyViolation
error_of_fault fault.BadEncoding = UnsupportedEncoding

abbrev pub error_of_header : HeaderFault → StreamError
error_of_header header.InvalidNamespace = InvalidNamespace
error_of_header header.UnsupportedVersion = UnsupportedVersion
error_of_header header.HostUnknown = HostUnknown

abbrev pub error_of_item : ItemFault → StreamError
error_of_item item.InvalidFrom = InvalidFrom
error_of_item item.UnsupportedStanzaType = UnsupportedStanzaType
error_of_item item.BadFormat = BadFormat
error_of_item item.NotAuthorized = NotAuthorized

-- what became of the session; a connection is never over because its session was closed or lost
abbrev pub error_of_cause : Cause → Option StreamError
error_of_cause (cause.Moved conn) = Some Conflict
error_of_cause (cause.Replaced session) = Some Conflict
error_of_cause (cause.Overfull kept queued) = Some ResourceConstraint
error_of_cause (cause.TooHigh h kept sent) = Some (HandledCountTooHigh h sent)
error_of_cause (cause.Flood waiting) = Some PolicyViolation
error_of_cause cause.Closed = None
error_of_cause cause.Lost = None

-- the error that is said before the stream is closed, if one is
abbrev pub error_of : Ended → Option StreamError
error_of (ended.Broken fault offset) = Some (error_of_fault fault)
error_of (ended.BadHeader fault) = Some (error_of_header fault)
error_of (ended.BadItem fault number) = Some (error_of_item fault)
error_of ended.ThirdFailure = Some PolicyViolation
error_of (ended.Idle moment) = Some ConnectionTimeout
error_of (ended.Over cause) = error_of_cause cause
error_of ended.Closed = None
error_of ended.Hung = None
error_of ended.LinkFault = None
error_of ended.DiceFault = None
error_of ended.Spent = None
error_of ended.NoMemory = None
