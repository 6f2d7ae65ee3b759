-- A transaction touches few keys.
use Rattle.std.proofs.Common.{◌+◌, ◌*◌, ◌≤◌, ◌<◌, ◌^◌, Bool, true, false, List, [], ◌∷◌, length, fold, arith, length-append}
use Rattle.std.specs.Prelude.{count_by, not, if◌then◌else◌}
use Rattle.std.specs.List.{flat_map, insert}
use Rattle.std.proofs.lemmas.List.Edits.{length-insert}
use Rattle.std.proofs.lemmas.List.Sums.{count_by-le-length, length-filter}
use Rattle.rows_model.specs.declared.keys.QKey.{QKey}
use Rattle.rows_model.specs.declared.changes.Change.{Change}
use Rattle.rows_model.specs.declared.changes.Change.TheVariants.{Invite, Accept, Reject, Thaw, Rename, Block}
use Rattle.rows_model.specs.Key.{same_key}
use Rattle.rows_model.specs.Changes.{foot_of, footprint, has_key, is_key_before, with_key, IsTxn}
use Rattle.session_client.specs.Plans.{without_key}

foot_few : (change : Change) → length (foot_of change) ≤ 8
foot_few (Invite a b) = omega arith
foot_few (Accept a b) = omega arith
foot_few (Reject a b) = omega arith
foot_few (Thaw a b) = omega arith
foot_few (Rename a name) = omega arith
foot_few (Block a b) = omega arith

feet_few : (changes : List Change) → length (flat_map foot_of changes) ≤ 8 * length changes
feet_few [] = omega arith
feet_few (change ∷ changes) =
    let one = foot_few change in
    let rest = feet_few changes in
    let both = length-append (foot_of change) (flat_map foot_of changes) in
    omega (arith, one, rest, both)

with_go : (keys : List QKey) (key : QKey) (b : Bool) → length (if b then keys else insert keys (count_by (is_key_before key) keys) key) ≤ length keys + 1
with_go keys key true = omega arith
with_go keys key false =
    let within = count_by-le-length (is_key_before key) keys in
    let more = length-insert keys (count_by (is_key_before key) keys) key within in
    omega (arith, more)

all_few : (keys more : List QKey) → length (fold with_key keys more) ≤ length keys + length more
all_few keys [] = omega arith
all_few keys (key ∷ more) =
    let one = with_go keys key (has_key key keys) in
    let rest = all_few (with_key keys key) more in
    omega (arith, one, rest)

pub footprint_few : (changes : List Change) → IsTxn changes → length (footprint changes) < 2 ^ 32
footprint_few changes h =
    let all = all_few [] (flat_map foot_of changes) in
    let feet = feet_few changes in
    omega (arith, all, feet, h.few)

pub without_few : (key : QKey) (keys : List QKey) → length (without_key key keys) ≤ length keys
without_few key keys =
    let count = length-filter (λ other. not (same_key key other)) keys in
    let within = count_by-le-length (λ other. not (same_key key other)) keys in
    omega (arith, count, within)
