use Rattle.std.proofs.Common.{◌≡◌, Option, None, Some, ap, refl}
use Rattle.rows_model.specs.Rows.{Tables}
use Rattle.sql_keeper.specs.declared.keepers.Place.{Place}
use Rattle.sqlite_pool.specs.Pool.{state}
use Rattle.sqlite_keeper.specs.Keepers.{held_at}
use Rattle.sqlite_keeper.proofs.keeper.SqliteKeeper.open.Goals as goal

none_held : (held : Option Tables) (x : Tables) → held ≡ None → held ≡ Some x → ⊥
none_held None x a b = absurd (cc)
none_held (Some y) x a b = absurd (cc)

pub returns-in_ok-base-in-File-clause-told : goal.returns-in_ok-base-in-File-clause-told
unfolding state
returns-in_ok-base-in-File-clause-told c = c.in_ok-base-in-File.ensures.told (λ store. refl)

pub returns-in_ok-base-in-File-clause-held : goal.returns-in_ok-base-in-File-clause-held
returns-in_ok-base-in-File-clause-held c = λ x e.
    absurd (none_held (held_at c.args.place.now c.args.members) x (ap (λ (p : Place). held_at p c.args.members) c.in-File.is) e)
