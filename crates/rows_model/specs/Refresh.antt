use Rattle.std.specs.Prelude.{ℕ, ◌+◌, ◌-◌, ◌^◌, Bool, false, ◌==◌, ◌&&◌, not, nat_le, nat_lt, if◌then◌else◌, List, [], ◌∷◌, ◌++◌, length}
use Rattle.std.specs.Prelude.{filter, fold, count_by, decimal, Option, Some, None, option_map}
use Rattle.std.specs.Option.{option_and_then}
use Rattle.std.specs.List.{list_all, list_any, insert, slice_split}
use Rattle.rows_model.specs.declared.keys.Kind.{Kind}
use Rattle.rows_model.specs.declared.keys.Kind.TheVariants.{Profile, Friends, Pending, NFriends, NPending, Blocked}
use Rattle.rows_model.specs.declared.keys.QKey.{QKey}
use Rattle.rows_model.specs.declared.changes.Change.{Change}
use Rattle.rows_model.specs.declared.changes.Change.TheVariants.{Invite, Accept, Reject, Thaw, Rename, Block}
use Rattle.rows_model.specs.declared.refreshing.Circle.{Circle}
use Rattle.rows_model.specs.declared.refreshing.Circle.TheVariants.{Befriended, Inviting, Barred}
use Rattle.rows_model.specs.declared.refreshing.IdStep.{IdStep}
use Rattle.rows_model.specs.declared.refreshing.IdStep.TheVariants.{Stay, Put, Take}
use Rattle.rows_model.specs.declared.refreshing.Person.{Person}
use Rattle.rows_model.specs.Shift.{number_in}
use Rattle.rows_model.specs.Changes.{touches}
use Rattle.rows_model.specs.Query.{id_list}

-- the number below 2^32 that a text is, written without leading zeros
unfoldable pub small_number : List ℕ → Option ℕ
small_number text = option_and_then (λ n. if nat_lt n (2 ^ 32) then Some n else None) (number_in text)

-- the ids that these words are, each above the one before it and none below this
abbrev pub ids_from : ℕ → List (List ℕ) → Option (List ℕ)
ids_from least [] = Some []
ids_from least (word ∷ words) =
    option_and_then (λ id. if nat_lt id least then None else option_map (λ ids. id ∷ ids) (ids_from (id + 1) words)) (small_number word)

-- the words of a text between bytes of this kind
abbrev pub words_of : ℕ → List ℕ → List (List ℕ)
words_of byte text = slice_split (λ other. other == byte) text

-- the ascending ids that a text lists with commas between, or none where it is no such list
unfoldable pub ids_in : List ℕ → Option (List ℕ)
ids_in [] = Some []
ids_in (byte ∷ bytes) = ids_from 0 (words_of 44 (byte ∷ bytes))

-- whether a text is a member's name: 1 to 40 bytes that are printable ASCII, and no space
abbrev pub is_name : List ℕ → Bool
is_name text = list_all (λ byte. nat_le 0x21 byte && nat_le byte 0x7e) text && nat_le 1 (length text) && nat_le (length text) 40

-- a person of this name with these counts, where there are both
abbrev pub person : List ℕ → Option ℕ → Option ℕ → Option Person
person name (Some friends) (Some pending) = Some (record { name = name; friends = friends; pending = pending })
person name (Some friends) None = None
person name None pending = None

-- the person that three words tell: a name and two counts
abbrev pub person_of : List (List ℕ) → Option Person
person_of (name ∷ friends ∷ pending ∷ []) =
    if is_name name then person name (small_number friends) (small_number pending) else None
person_of (name ∷ friends ∷ pending ∷ more ∷ words) = None
person_of (name ∷ friends ∷ []) = None
person_of (name ∷ []) = None
person_of [] = None

-- the person that a profile tells, or none where the text is no profile of a member
unfoldable pub person_in : List ℕ → Option Person
person_in text = person_of (words_of 32 text)

-- what a change does to a circle of this member: with two members named alike, it is the first of a friendship
abbrev pub step_in : Circle → ℕ → Change → IdStep
step_in Befriended id (Accept a b) = if a == id then Put b else (if b == id then Put a else Stay)
step_in Befriended id (Thaw a b) = if a == id then Take b else (if b == id then Take a else Stay)
step_in Befriended id (Invite a b) = Stay
step_in Befriended id (Reject a b) = Stay
step_in Befriended id (Rename a name) = Stay
step_in Befriended id (Block a b) = Stay
step_in Inviting id (Invite a b) = if b == id then Put a else Stay
step_in Inviting id (Accept a b) = if b == id then Take a else Stay
step_in Inviting id (Reject a b) = if b == id then Take a else Stay
step_in Inviting id (Thaw a b) = Stay
step_in Inviting id (Rename a name) = Stay
step_in Inviting id (Block a b) = Stay
step_in Barred id (Invite a b) = Stay
step_in Barred id (Accept a b) = Stay
step_in Barred id (Reject a b) = Stay
step_in Barred id (Thaw a b) = Stay
step_in Barred id (Rename a name) = Stay
step_in Barred id (Block a b) = if a == id then Put b else Stay

-- a count after a step, or none where it would pass below 0 or reach 2^32
abbrev pub counted : IdStep → ℕ → Option ℕ
counted Stay count = Some count
counted (Put id) count = if nat_lt (count + 1) (2 ^ 32) then Some (count + 1) else None
counted (Take id) count = if nat_lt 0 count then Some (count - 1) else None

-- whether an id is among these
abbrev pub has_id : ℕ → List ℕ → Bool
has_id id ids = list_any (λ other. other == id) ids

-- the ids and one more, behind those below it
abbrev pub with_id : ℕ → List ℕ → List ℕ
with_id id ids = insert ids (count_by (λ other. nat_lt other id) ids) id

-- the ids but for this one
abbrev pub without_id : ℕ → List ℕ → List ℕ
without_id id ids = filter (λ other. not (other == id)) ids

-- ids after a step, or none where one to be put is there or one to be taken isn't
abbrev pub listed : IdStep → List ℕ → Option (List ℕ)
listed Stay ids = Some ids
listed (Put id) ids = if has_id id ids then None else Some (with_id id ids)
listed (Take id) ids = if has_id id ids then Some (without_id id ids) else None

-- what stands after each change in turn, or none where one of them gives none
abbrev pub after_all : {A : Type 0} → (Change → A → Option A) → List Change → A → Option A
after_all step [] now = Some now
after_all step (change ∷ changes) now = option_and_then (after_all step changes) (step change now)

-- the count of a circle after changes in turn
abbrev pub count_after : Circle → ℕ → List Change → ℕ → Option ℕ
count_after circle id changes count = after_all (λ change. counted (step_in circle id change)) changes count

-- the ids of a circle after changes in turn
abbrev pub ids_after : Circle → ℕ → List Change → List ℕ → Option (List ℕ)
ids_after circle id changes ids = after_all (λ change. listed (step_in circle id change)) changes ids

-- the name of this member after a change
abbrev pub named : ℕ → List ℕ → Change → List ℕ
named id name (Rename a new) = if a == id then new else name
named id name (Invite a b) = name
named id name (Accept a b) = name
named id name (Reject a b) = name
named id name (Thaw a b) = name
named id name (Block a b) = name

-- a person after changes in turn
abbrev pub person_after : ℕ → List Change → Person → Option Person
person_after id changes old =
    person (fold (named id) old.name changes) (count_after Befriended id changes old.friends) (count_after Inviting id changes old.pending)

-- the profile of a person: the name and the two counts, with spaces between
abbrev pub person_text : Person → List ℕ
person_text one = one.name ++ 32 ∷ decimal one.friends ++ 32 ∷ decimal one.pending

-- whether a text is `-`, the profile of no member
abbrev pub is_dash : List ℕ → Bool
is_dash [] = false
is_dash (byte ∷ []) = byte == 45
is_dash (byte ∷ next ∷ bytes) = false

-- a profile after changes in turn; that of no member stays where none of them touches it
abbrev pub refreshed_profile : ℕ → List ℕ → List Change → Option (List ℕ)
refreshed_profile id old changes =
    if is_dash old
    then (if touches changes (record { kind = Profile; id = id }) then None else Some old)
    else option_map person_text (option_and_then (person_after id changes) (person_in old))

-- a list of ids after changes in turn
abbrev pub refreshed_ids : Circle → ℕ → List ℕ → List Change → Option (List ℕ)
refreshed_ids circle id old changes = option_map id_list (option_and_then (ids_after circle id changes) (ids_in old))

-- a count after changes in turn
abbrev pub refreshed_count : Circle → ℕ → List ℕ → List Change → Option (List ℕ)
refreshed_count circle id old changes = option_map decimal (option_and_then (count_after circle id changes) (small_number old))

-- the value of a key of this kind after changes in turn
abbrev pub refreshed_of : Kind → ℕ → List ℕ → List Change → Option (List ℕ)
refreshed_of Profile id old changes = refreshed_profile id old changes
refreshed_of Friends id old changes = refreshed_ids Befriended id old changes
refreshed_of Pending id old changes = refreshed_ids Inviting id old changes
refreshed_of NFriends id old changes = refreshed_count Befriended id old changes
refreshed_of NPending id old changes = refreshed_count Inviting id old changes
refreshed_of Blocked id old changes = refreshed_ids Barred id old changes

-- what a key's old value becomes by changes in turn, or none where it isn't of the key's form or a change doesn't fit it
unfoldable pub refreshed : QKey → List ℕ → List Change → Option (List ℕ)
refreshed key old changes = refreshed_of key.kind key.id old changes
