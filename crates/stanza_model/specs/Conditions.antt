-- The conditions of stanza errors: their names (RFC 6120, 8.3.3), and the types of their errors (RFC 6120, 8.3.2).
use Rattle.std.specs.Prelude.{ℕ, List, codes}
use Rattle.stanza_model.specs.declared.condition.Condition.{Condition}
use Rattle.stanza_model.specs.declared.condition.Condition.TheVariants.{BadRequest, Conflict, FeatureNotImplemented, Forbidden, ItemNotFound}
use Rattle.stanza_model.specs.declared.condition.Condition.TheVariants.{JidMalformed, NotAcceptable, NotAllowed, NotAuthorized}
use Rattle.stanza_model.specs.declared.condition.Condition.TheVariants.{RegistrationRequired, RemoteServerNotFound, ResourceConstraint}
use Rattle.stanza_model.specs.declared.condition.Condition.TheVariants.{ServiceUnavailable, UnexpectedRequest}

abbrev pub condition_name : Condition → List ℕ
condition_name BadRequest = codes "bad-request"
condition_name Conflict = codes "conflict"
condition_name FeatureNotImplemented = codes "feature-not-implemented"
condition_name Forbidden = codes "forbidden"
condition_name ItemNotFound = codes "item-not-found"
condition_name JidMalformed = codes "jid-malformed"
condition_name NotAcceptable = codes "not-acceptable"
condition_name NotAllowed = codes "not-allowed"
condition_name NotAuthorized = codes "not-authorized"
condition_name RegistrationRequired = codes "registration-required"
condition_name RemoteServerNotFound = codes "remote-server-not-found"
condition_name ResourceConstraint = codes "resource-constraint"
condition_name ServiceUnavailable = codes "service-unavailable"
condition_name UnexpectedRequest = codes "unexpected-request"

-- a condition has the same type wherever it is told
abbrev pub error_type : Condition → List ℕ
error_type BadRequest = codes "modify"
error_type Conflict = codes "cancel"
error_type FeatureNotImplemented = codes "cancel"
error_type Forbidden = codes "auth"
error_type ItemNotFound = codes "cancel"
error_type JidMalformed = codes "modify"
error_type NotAcceptable = codes "modify"
error_type NotAllowed = codes "cancel"
error_type NotAuthorized = codes "auth"
error_type RegistrationRequired = codes "auth"
error_type RemoteServerNotFound = codes "cancel"
error_type ResourceConstraint = codes "wait"
error_type ServiceUnavailable = codes "cancel"
error_type UnexpectedRequest = codes "wait"
