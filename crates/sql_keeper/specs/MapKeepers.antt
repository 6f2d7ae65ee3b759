use Rattle.std.specs.Prelude.{ℕ, Bool, true, false, List, Option}
use Rattle.iq_outside.specs.Outside.{count_up}
use Rattle.rows_model.specs.Rows.{Tables}

-- a keeper in memory: its rows, once it was started, the numbers of the calls that fail, and how many calls and faults there were
pub record MapView : Type 0 where
  pub rows : Option Tables
  pub fails : List ℕ
  pub calls : ℕ
  pub faults : ℕ

-- the keeper after a call was counted, which fails or doesn't
abbrev pub counted : Bool → MapView → MapView
counted true keeper =
    record { rows = keeper.rows; fails = keeper.fails; calls = count_up keeper.calls; faults = count_up keeper.faults }
counted false keeper =
    record { rows = keeper.rows; fails = keeper.fails; calls = count_up keeper.calls; faults = keeper.faults }

-- the keeper, with these rows
abbrev pub with_rows : Option Tables → MapView → MapView
with_rows rows keeper = record { rows = rows; fails = keeper.fails; calls = keeper.calls; faults = keeper.faults }
