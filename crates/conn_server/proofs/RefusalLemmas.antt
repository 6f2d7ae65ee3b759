-- What isn't the case of a command that isn't refused.
use Rattle.std.proofs.Common.{◌≡◌, ◌≢◌, ◌<◌, ◌&&◌, ◌⊎◌, inl, inr, Bool, true, false, true≢false, not, List, [], ◌∷◌, length, Option, Some, None}
use Rattle.std.proofs.Common.{is_some, refl, sym, ap, subst, ◌∙◌}
use Rattle.std.specs.Prelude.{nat_le}
use Rattle.std.proofs.lemmas.Bool.{leb-false}
use Rattle.std.specs.Prelude.{IsSome}
use Rattle.rows_model.specs.declared.keys.QKey.{QKey}
use Rattle.rows_model.specs.declared.keys.Sid.{Sid}
use Rattle.rows_model.specs.Delta.{is_count}
use Rattle.case_tables.specs.Compatibility.{same_way}
use Rattle.lease_table.specs.declared.records.Mode.{Mode}
use Rattle.lease_table.specs.declared.records.Mode.TheVariants.{Invalidate, Refresh, Delta}
use Rattle.lease_table.specs.Leases.{way_of}
use Rattle.key_shard.specs.Permit.{Permit}
use Rattle.mc_text.specs.declared.commands.Command.{Command}
use Rattle.mc_text.specs.declared.commands.Command.TheVariants as commands
use Rattle.mc_text.specs.declared.replies.LineReply.{LineReply}
use Rattle.conn_server.specs.declared.clients.Client.{Client}
use Rattle.conn_server.specs.declared.clients.Present.{Present}
use Rattle.conn_server.specs.Answers.{HasFirst, HasFirstIn}
use Rattle.conn_server.specs.Clients.{is_reading, is_busy, is_full, is_present, grant_on}
use Rattle.conn_server.specs.Closing.{MayAbort}
use Rattle.conn_server.specs.Refusals.{key_word, named_sid, is_unknown, begins, quarantines, releases, writes, is_no_key}
use Rattle.conn_server.specs.Refusals.{is_of_another, shifts_no_count, grant_for, is_other_mode, in_mode, refusals, first_due, refused}

-- no cause to refuse the command holds
pub record Passes (client : Client) (said : Command) : Type 0 where
  pub known : is_unknown said ≡ false
  pub free : (begins said && is_busy client) ≡ false
  pub key : is_no_key (key_word said) ≡ false
  pub own : is_of_another client.present (named_sid said) ≡ false
  pub writer : (writes said && is_reading client.present) ≡ false
  pub room : (quarantines said && is_full client) ≡ false
  pub count : shifts_no_count said ≡ false
  pub grant : (releases said && not (is_some (grant_for client.grants.items (key_word said)))) ≡ false
  pub mode : is_other_mode said (grant_for client.grants.items (key_word said)) ≡ false

-- none of the errors is due
abbrev AreNotDue : List (Bool × LineReply) → Type 0
AreNotDue [] = Unit {0}
AreNotDue ((due, reply) ∷ others) = (due ≡ false) × AreNotDue others

none_due : (errors : List (Bool × LineReply)) → first_due errors ≡ None → AreNotDue errors
none_due [] e = tt
none_due ((true, reply) ∷ others) e = cc
none_due ((false, reply) ∷ others) e = (refl, none_due others e)

pub passes : (client : Client) (said : Command) → refused client said ≡ None → Passes client said
unfolding refused
passes client said e =
    let (known, (busy, (key, (flags, (exptime, (own, (writer, (committed, (room, (count, (early, (grant, (mode, end))))))))))))) = none_due (refusals client said) e in
    record {
      known = known;
      free = busy;
      key = key;
      own = own;
      writer = writer;
      room = room;
      count = count;
      grant = grant;
      mode = mode;
    }

-- the word for a key is a key
pub has_key : (key : Option QKey) → is_no_key (Some key) ≡ false → IsSome key
has_key (Some key) e = refl
has_key None e = cc

-- another grant may be held
pub has_room : (grants : List Permit) → nat_le 64 (length grants) ≡ false → length grants < 64
has_room grants e = leb-false 64 (length grants) e

-- the key is that of a count
pub is_of_count : (shifts : Bool) → not shifts ≡ false → shifts ≡ true
is_of_count true e = refl
is_of_count false e = cc

-- a grant that was found
record Found (found : Option Permit) : Type 0 where
  grant : Permit
  is : found ≡ Some grant

found_grant : (found : Option Permit) → not (is_some found) ≡ false → Found found
found_grant (Some grant) e = record { grant = grant; is = refl }
found_grant None e = cc

-- a grant on the key is held
pub has_first : (key : QKey) (grants : List Permit) → not (is_some (grant_on key grants)) ≡ false → HasFirst key grants
has_first key grants e =
    let found = found_grant (grant_on key grants) e in
    record { grant = found.grant; is_first = found.is }

-- modes of one way are the same
same_mode : (wanted mode : Mode) → not (same_way (way_of wanted) (way_of mode)) ≡ false → mode ≡ wanted
same_mode Invalidate Invalidate e = refl
same_mode Refresh Refresh e = refl
same_mode Delta Delta e = refl
same_mode wanted mode e = cc

-- and the first of them is in this mode
pub has_first_in : (mode : Mode) (key : QKey) (grants : List Permit) → not (is_some (grant_on key grants)) ≡ false
    → not (in_mode mode (grant_on key grants)) ≡ false → HasFirstIn mode key grants
has_first_in mode key grants some e =
    let found = found_grant (grant_on key grants) some in
    record {
      grant = found.grant;
      is_first = found.is;
      in_mode = same_mode mode found.grant.mode (subst (λ (f : Option Permit). not (in_mode mode f) ≡ false) found.is e);
    }

-- the session may be aborted
pub may_abort : (present : Option Present) (sid : Sid) → not (is_present present sid) ≡ false → is_reading present ≡ false → MayAbort present
may_abort (Some present) sid own writer = writer
may_abort None sid own writer = cc

-- what a command that isn't refused has, by what it is: its key is one
keyed : (client : Client) (said : Command) (key : Option QKey) → key_word said ≡ Some key → refused client said ≡ None → IsSome key
keyed client said key is e = has_key key (subst (λ (w : Option (Option QKey)). is_no_key w ≡ false) is (passes client said e).key)

-- so it isn't none
pub not_unkeyed : (client : Client) (said : Command) (key : Option QKey) → key_word said ≡ Some key → refused client said ≡ None → key ≢ None
not_unkeyed client said (Some key) is e none = cc
not_unkeyed client said None is e none = true≢false (sym (keyed client said None is e))

-- a quarantine may be granted
pub roomy : (client : Client) (said : Command) → quarantines said ≡ true → refused client said ≡ None → length client.grants.items < 64
roomy client said is e =
    has_room client.grants.items (subst (λ (b : Bool). (b && is_full client) ≡ false) is (passes client said e).room)

-- what is added to is a count
pub counted : (client : Client) (said : Command) (key : QKey) → shifts_no_count said ≡ not (is_count key)
    → refused client said ≡ None → is_count key ≡ true
counted client said key is e = is_of_count (is_count key) (sym is ∙ (passes client said e).count)

-- a grant is held, of which some was found
found_so : (client : Client) (said : Command) (key : QKey) → releases said ≡ true → key_word said ≡ Some (Some key)
    → refused client said ≡ None → not (is_some (grant_on key client.grants.items)) ≡ false
found_so client said key is word e =
    let grants = client.grants.items in
    let due : (releases said && not (is_some (grant_on key grants))) ≡ false =
    subst (λ (w : Option (Option QKey)). (releases said && not (is_some (grant_for grants w))) ≡ false) word (passes client said e).grant in
    subst (λ (b : Bool). (b && not (is_some (grant_on key grants))) ≡ false) is due

-- a grant on the key is held
pub held : (client : Client) (said : Command) (key : QKey) → releases said ≡ true → key_word said ≡ Some (Some key)
    → refused client said ≡ None → HasFirst key client.grants.items
held client said key is word e = has_first key client.grants.items (found_so client said key is word e)

-- and in the mode that is wanted
pub held_in : (mode : Mode) (client : Client) (said : Command) (key : QKey) → releases said ≡ true → key_word said ≡ Some (Some key)
    → ((found : Option Permit) → is_other_mode said found ≡ not (in_mode mode found))
    → refused client said ≡ None → HasFirstIn mode key client.grants.items
held_in mode client said key is word by_mode e =
    let found = grant_on key client.grants.items in
    let due : is_other_mode said found ≡ false =
    subst (λ (w : Option (Option QKey)). is_other_mode said (grant_for client.grants.items w) ≡ false) word (passes client said e).mode in
    has_first_in mode key client.grants.items (found_so client said key is word e) (sym (by_mode found) ∙ due)

-- the present session may be aborted
pub abortable : (client : Client) (said : Command) (sid : Sid) → named_sid said ≡ Some sid → writes said ≡ true
    → refused client said ≡ None → MayAbort client.present
abortable client said sid named is e =
    let p = passes client said e in
    may_abort client.present sid (subst (λ (s : Option Sid). is_of_another client.present s ≡ false) named p.own)
    (subst (λ (b : Bool). (b && is_reading client.present) ≡ false) is p.writer)

-- what isn't refused has a verb, and isn't the end
pub goes_on : (client : Client) (said : Command) → (said ≡ commands.Quit) ⊎ (said ≡ commands.Unknown) → said ≢ commands.Quit
    → refused client said ≡ None → ⊥
goes_on client said (inl is) not_quit e = not_quit is
goes_on client said (inr is) not_quit e = absurd (true≢false (sym (ap is_unknown is) ∙ (passes client said e).known))
