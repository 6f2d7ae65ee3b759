-- What the pass of a key's shard has seen keeps the key's rule.
use Rattle.std.proofs.Common.{◌≡◌, ◌≤◌, true, length, subst, arith}
use Rattle.std.specs.List.{list_any, AllByRecursion}
use Rattle.rows_model.specs.Placement.{shard_of}
use Rattle.log_word.specs.Events.{commit_count}
use Rattle.log_word.specs.Steps.{grants, IsBorneOut}
use Rattle.bound_hub.specs.Knowns.{commits_of}
use Rattle.bound_hub.specs.Laws.{KeysAreRuled, MoreIsKnown}
use Rattle.bound_hub.proofs.ShortLemmas.{ended_is_over, wrote_is_committed, granted_is_marked}
use Rattle.bound_hub.proofs.EventLemmas.{commits_counted, over_is_known, logged_once, logged_not_ended, logged_was_granted, known_goes_on}

pub keys_are_ruled : KeysAreRuled
keys_are_ruled shards seen key before more sound are =
    let all = subst (AllByRecursion (IsBorneOut seen.events)) are (sound.borne_out (shard_of key shards)) in
    record {
      over = λ who token h. over_is_known seen.events who (ended_is_over key seen.events before more all who token h);
      once = logged_once seen.events sound.in_order;
      apart = logged_not_ended seen.events sound.in_order;
      covered = λ place commit at touched.
          let granted = logged_was_granted shards seen.steps seen.events sound.granted place commit at key touched in
          granted_is_marked key before more commit.sid.number (subst (λ l. list_any (grants key commit.sid.number) l ≡ true) are granted);
      wrote = λ stamp h.
          let most : stamp ≤ commit_count seen.events = wrote_is_committed key seen.events before more all stamp h in
          let e : length (commits_of seen.events) ≡ commit_count seen.events = commits_counted seen.events in
          omega (arith, most, e);
    }

pub more_is_known : MoreIsKnown
more_is_known old new begins = known_goes_on old.events new.events begins.events
