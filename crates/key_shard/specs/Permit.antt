use Rattle.std.specs.Prelude.{ℕ, Bool, ◌==◌, ◌&&◌}
use Rattle.rows_model.specs.declared.keys.QKey.{QKey}
use Rattle.rows_model.specs.declared.keys.Sid.{Sid}
use Rattle.rows_model.specs.Key.{same_key}
use Rattle.case_tables.specs.Compatibility.{same_way}
use Rattle.lease_table.specs.declared.records.Mode.{Mode}
use Rattle.lease_table.specs.Leases.{way_of}

-- What a grant says: which shard granted which key to which session, in which mode and by which token.
pub record Permit : Type 0 where
  pub shard : ℕ
  pub key : QKey
  pub sid : Sid
  pub mode : Mode
  pub token : ℕ

-- Whether two grants say the same.
abbrev pub same_permit : Permit → Permit → Bool
same_permit a b =
    (a.shard == b.shard) && same_key a.key b.key && (a.sid.number == b.sid.number) && same_way (way_of a.mode) (way_of b.mode) && (a.token == b.token)
