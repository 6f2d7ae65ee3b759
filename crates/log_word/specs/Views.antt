-- What each kind of step on the word makes of what a seat has seen.
use Rattle.std.specs.Prelude.{ℕ, suc, max, pos, ◌||◌, Bool, false, [], ◌∷◌}
use Rattle.log_word.specs.declared.events.StoreEvent.{StoreEvent}
use Rattle.log_word.specs.declared.events.StoreEvent.TheVariants.{End}
use Rattle.log_word.specs.declared.events.Short.{Short}
use Rattle.log_word.specs.declared.events.ShortKind.TheVariants.{Hit}
use Rattle.rows_model.specs.declared.keys.Kind.TheVariants.{Profile}
use Rattle.log_word.specs.declared.seen.Seen.{Seen}
use Rattle.log_word.specs.declared.seen.View.{View}
use Rattle.log_word.specs.declared.seen.Part.{Part}
use Rattle.log_word.specs.declared.seen.Part.TheVariants.{Caller, Store, Shard}
use Rattle.log_word.specs.Lists.{longer, longer_each, with_step_of, without_steps_of}

-- Nothing.
abbrev pub nothing_seen : Seen
nothing_seen = record { events = []; failures = 0; stopped = false; steps = [] }

-- With one more event of the store.
abbrev pub with_event : StoreEvent → Seen → Seen
with_event event seen = record {
  events = event ∷ seen.events;
  failures = seen.failures;
  stopped = seen.stopped;
  steps = seen.steps;
}

-- With one more call that the keeper failed.
abbrev pub with_failure : Seen → Seen
with_failure seen = record {
  events = seen.events;
  failures = suc seen.failures;
  stopped = seen.stopped;
  steps = seen.steps;
}

-- And that the store has stopped telling its rows, where that is so.
abbrev pub with_stop : Bool → Seen → Seen
with_stop stopped seen = record {
  events = seen.events;
  failures = seen.failures;
  stopped = seen.stopped || stopped;
  steps = seen.steps;
}

-- With one more step of a shard.
abbrev pub with_step : ℕ → Short → Seen → Seen
with_step shard step seen = record {
  events = seen.events;
  failures = seen.failures;
  stopped = seen.stopped;
  steps = with_step_of shard step seen.steps;
}

-- What two have seen together.
abbrev pub together : Seen → Seen → Seen
together one other = record {
  events = longer one.events other.events;
  failures = max one.failures other.failures;
  stopped = one.stopped || other.stopped;
  steps = longer_each one.steps other.steps;
}

-- What a seat takes over from another: of its own part nothing, since it has seen that whole.
abbrev pub taken_over : Part → Seen → Seen
taken_over Caller seen = seen
taken_over Store seen = record { events = []; failures = 0; stopped = false; steps = seen.steps }
taken_over (Shard shard) seen = record {
  events = seen.events;
  failures = seen.failures;
  stopped = seen.stopped;
  steps = without_steps_of shard seen.steps;
}

-- What a seat has seen once it has joined another.
abbrev pub joined : Part → Seen → Seen → Seen
joined part mine other = together mine (taken_over part other)

-- A view of the same seat that has seen this.
abbrev pub view_that_saw : Seen → View → View
view_that_saw seen view =
    record { part = view.part; shards = view.shards; made = view.made; seen = seen; olds = [] }

-- The shard of a shard's seat.
abbrev pub shard_number : Part → ℕ
shard_number Caller = 0
shard_number Store = 0
shard_number (Shard shard) = shard

-- The store's view once it has made the seats of so many shards and has seen nothing yet.
abbrev pub made_view : ℕ → ℕ → View
made_view shards made =
    record { part = Store; shards = shards; made = made; seen = nothing_seen; olds = [] }

-- The first view: the store's.
abbrev pub store_view : ℕ → View
store_view shards = made_view shards 0

-- A seat's view with one more event, failed call, stop, or step of its shard.
abbrev pub view_with_event : StoreEvent → View → View
view_with_event event view = view_that_saw (with_event event view.seen) view

abbrev pub view_with_failure : View → View
view_with_failure view = view_that_saw (with_failure view.seen) view

abbrev pub view_with_stop : Bool → View → View
view_with_stop stopped view = view_that_saw (with_stop stopped view.seen) view

abbrev pub view_with_step : Short → View → View
view_with_step step view = view_that_saw (with_step (shard_number view.part) step view.seen) view

-- A note's view.
abbrev pub noted : View → View
noted view = record { part = Caller; shards = view.shards; made = 0; seen = view.seen; olds = [] }

-- The store's view once it has made one more shard's seat, and the view of that.
abbrev pub with_shard : View → View
with_shard view =
    record { part = view.part; shards = view.shards; made = suc view.made; seen = view.seen; olds = [] }

abbrev pub shard_view : View → View
shard_view view =
    record { part = Shard view.made; shards = view.shards; made = 0; seen = nothing_seen; olds = [] }

-- A view after a join: both old ones are kept until the next step.
abbrev pub view_joined : View → View → View
view_joined mine other = record {
  part = mine.part;
  shards = mine.shards;
  made = mine.made;
  seen = joined mine.part mine.seen other.seen;
  olds = mine.seen ∷ other.seen ∷ [];
}

-- What is left of the other seat.
abbrev pub spent_view : View
spent_view = record { part = Caller; shards = 0; made = 0; seen = nothing_seen; olds = [] }

-- A view once the word was looked at: no old ones are kept.
abbrev pub settled : View → View
settled view = view_that_saw view.seen view

-- What stands for an event and a step where none is named.
abbrev pub no_event : StoreEvent
no_event = End (record { number = 0 })

abbrev pub no_step : Short
no_step = record {
  kind = Hit;
  key = record { kind = Profile; id = 0 };
  sid = record { number = 0 };
  token = 0;
  stamp = 0;
  alone = false;
  by = pos 0;
  entry = false;
}
