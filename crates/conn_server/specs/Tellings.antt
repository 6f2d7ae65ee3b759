-- What is told of a reply by those commands that are told alike.
use Rattle.std.specs.Prelude.{ℕ, Bool, true, false, List, Option, Some, None}
use Rattle.key_shard.specs.Permit.{Permit}
use Rattle.key_shard.specs.declared.replies.QAnswer.TheVariants as quarantine
use Rattle.key_shard.specs.declared.replies.Rel.TheVariants as rel
use Rattle.session_client.specs.declared.replies.Reply.{Reply}
use Rattle.session_client.specs.declared.replies.Reply.TheVariants as desk
use Rattle.mc_text.specs.declared.replies.LineReply.{LineReply}
use Rattle.mc_text.specs.declared.replies.LineReply.TheVariants as LineReply
use Rattle.conn_server.specs.Requests.{fault_reply}

-- of a grant, whether to refresh or not: its token; and to refresh, the value that the key has
abbrev pub granted_as : Bool → Permit → Option (List ℕ × ℕ) → LineReply
granted_as true grant (Some (value, stamp)) = LineReply.GrantedStamped grant.token grant.key stamp value
granted_as true grant None = LineReply.GrantedNone grant.token
granted_as false grant old = LineReply.Granted grant.token

-- of a reply to a quarantine, whether to refresh or not
abbrev pub quarantine_as : Bool → Reply → LineReply
quarantine_as reads (desk.Quar (quarantine.Granted grant old)) = granted_as reads grant old
quarantine_as reads (desk.Quar quarantine.Held) = LineReply.Held
quarantine_as reads (desk.Quar (quarantine.Refused holder mode)) = LineReply.Refused holder mode
quarantine_as reads (desk.Fault fault) = fault_reply fault
quarantine_as reads other = LineReply.Error

-- of a reply to a release, where this is told of one that ended its quarantine
abbrev pub release_as : LineReply → Reply → LineReply
release_as reply (desk.Rel (rel.Released evicted)) = reply
release_as reply (desk.Rel rel.Gone) = LineReply.NotFound
release_as reply other = LineReply.Error
