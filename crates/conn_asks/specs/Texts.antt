-- What a server itself says on a stream, beside stanzas and their answers (RFC 6120).
use Rattle.std.specs.Prelude.{ℕ, List, ◌++◌, codes}
use Rattle.stanza_tree.specs.Spelling.{value_text}
use Rattle.scram_core.specs.Login.{base64_of}
use Rattle.uuid.specs.Text.{hyphenated_text, lower}
use Rattle.uuid.specs.Parts.{with_version, with_variant}
use Rattle.uuid.specs.declared.Version.TheVariants.{Random}
use Rattle.uuid.specs.declared.Variant.TheVariants.{RFC4122}
use Rattle.conn_asks.specs.declared.failure.Failure.{Failure}
use Rattle.conn_asks.specs.declared.failure.Failure.TheVariants.{Aborted, IncorrectEncoding, InvalidAuthzid, InvalidMechanism, MalformedRequest, NotAuthorized}

-- RFC 6120, 4.7.3: the id of a stream; here a UUID of random bytes (RFC 9562, 5.4)
abbrev pub stream_id : List ℕ → List ℕ
stream_id dice = hyphenated_text lower (with_version (with_variant dice RFC4122) Random)

-- RFC 6120, 4.3.3: the stream after a login is a new one, with another id
abbrev pub next_id : List ℕ → List ℕ
next_id id = id ++ codes "-2"

-- RFC 6120, 4.7: the declaration, and the start tag of the stream
unfoldable pub header_text : List ℕ → List ℕ → List ℕ
header_text domain id =
    codes "<?xml version='1.0'?><stream:stream xmlns='jabber:client' xmlns:stream='http://etherx.jabber.org/streams' from='" ++ domain
    ++ codes "' id='" ++ id ++ codes "' version='1.0' xml:lang='en'>"

-- RFC 6120, 6.4.1: before login the mechanisms are offered
unfoldable pub login_features_text : List ℕ
login_features_text =
    codes "<stream:features><mechanisms xmlns='urn:ietf:params:xml:ns:xmpp-sasl'><mechanism>SCRAM-SHA-256</mechanism><mechanism>SCRAM-SHA-1</mechanism></mechanisms></stream:features>"

-- RFC 6120, 7.4, RFC 3921, 3, and XEP-0198, 2: after login binding, sessions that need not be asked for, and stream management
unfoldable pub features_text : List ℕ
features_text =
    codes "<stream:features><bind xmlns='urn:ietf:params:xml:ns:xmpp-bind'/><session xmlns='urn:ietf:params:xml:ns:xmpp-session'><optional/></session><sm xmlns='urn:xmpp:sm:3'/></stream:features>"

-- RFC 6120, 6.4.2: where no first text came with the mechanism, an empty challenge asks for it
unfoldable pub invitation_text : List ℕ
invitation_text = codes "<challenge xmlns='urn:ietf:params:xml:ns:xmpp-sasl'/>"

-- RFC 6120, 6.4.3: a challenge carries bytes in base64
unfoldable pub challenge_text : List ℕ → List ℕ
challenge_text bytes = codes "<challenge xmlns='urn:ietf:params:xml:ns:xmpp-sasl'>" ++ base64_of bytes ++ codes "</challenge>"

-- RFC 6120, 6.4.6
unfoldable pub success_text : List ℕ → List ℕ
success_text bytes = codes "<success xmlns='urn:ietf:params:xml:ns:xmpp-sasl'>" ++ base64_of bytes ++ codes "</success>"

-- RFC 6120, 6.5: the conditions of a failed login
abbrev pub failure_name : Failure → List ℕ
failure_name Aborted = codes "aborted"
failure_name IncorrectEncoding = codes "incorrect-encoding"
failure_name InvalidAuthzid = codes "invalid-authzid"
failure_name InvalidMechanism = codes "invalid-mechanism"
failure_name MalformedRequest = codes "malformed-request"
failure_name NotAuthorized = codes "not-authorized"

-- RFC 6120, 6.4.5
unfoldable pub failure_text : Failure → List ℕ
failure_text failure = codes "<failure xmlns='urn:ietf:params:xml:ns:xmpp-sasl'><" ++ failure_name failure ++ codes "/></failure>"

-- RFC 6120, 7.7.2.1: the resource of a binding with this id can't be read
unfoldable pub refused_resource_text : List ℕ → List ℕ
refused_resource_text id =
    codes "<iq id='" ++ value_text id
    ++ codes "' type='error'><error type='modify'><bad-request xmlns='urn:ietf:params:xml:ns:xmpp-stanzas'/></error></iq>"

-- RFC 6120, 4.4: the end tag of the stream
unfoldable pub close_tag : List ℕ
close_tag = codes "</stream:stream>"
