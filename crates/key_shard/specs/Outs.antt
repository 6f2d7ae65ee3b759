-- How the grants that are out are kept.
use Rattle.std.specs.Prelude.{ℕ, ◌≡◌}
use Rattle.std.specs.List.{All}
use Rattle.std.specs.Ordering.{nat_cmp}
use Rattle.std.specs.BTreeMap.{BTreeMap, IsOrdered}
use Rattle.rows_model.specs.declared.keys.QKey.{QKey}
use Rattle.lease_table.specs.declared.records.Quar.{Quar}
use Rattle.key_shard.specs.declared.outs.Out.{Out}

-- The grant of a quarantine on a key.
abbrev pub out_as : QKey → Quar → Out
out_as key quar = record { key = key; sid = quar.sid; mode = quar.mode; token = quar.token }

-- An entry of the map is a grant that is out, at its token.
abbrev pub IsAtToken : ℕ × Out → Type 0
IsAtToken e = e.1.token ≡ e.0

-- Each grant that is out stands at its token, and the map's tokens ascend.
pub record AreByToken (outs : BTreeMap ℕ Out) : Type 0 where
  pub in_order : IsOrdered nat_cmp outs
  pub at_token : All IsAtToken outs.entries
