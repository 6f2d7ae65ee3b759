-- What is counted in a transcript.
use Rattle.std.specs.Prelude.{ℕ, ◌-◌, ◌^◌, Bool, true, false, List, count_by, sum_by, min}
use Rattle.session_client.specs.declared.replies.Outcome.{Outcome}
use Rattle.session_client.specs.declared.replies.Outcome.TheVariants as outcome
use Rattle.sql_keeper.specs.declared.faults.CommitFault.TheVariants as cause
use Rattle.gate_workers.specs.declared.marks.Mark.{Mark}
use Rattle.gate_workers.specs.declared.marks.Response.{Response}
use Rattle.gate_workers.specs.declared.marks.Response.TheVariants as response
use Rattle.gate_workers.specs.declared.tallies.Counted.{Counted}
use Rattle.gate_workers.specs.declared.tallies.Counted.TheVariants as counted
use Rattle.gate_workers.specs.declared.tallies.Tally.{Tally}
use Rattle.gate_workers.specs.Rows.{RowView}

-- Whether an outcome is this one that is counted.
abbrev pub is_one : Counted → Outcome → Bool
is_one counted.Hit outcome.Hit = true
is_one counted.Stored outcome.Stored = true
is_one counted.Void outcome.Void = true
is_one counted.Bypass outcome.Bypass = true
is_one counted.Committed (outcome.Committed number) = true
is_one counted.Rejected (outcome.NotCommitted (cause.Rejected index)) = true
is_one counted.Refused (outcome.Refused holder held) = true
is_one other ended = false

-- A session was told to try again.
abbrev pub is_again : Response → Bool
is_again (response.Again standing) = true
is_again other = false

-- How many rows have this outcome.
abbrev pub count_of : Counted → List RowView → ℕ
count_of one rows = count_by (λ (row : RowView). is_one one row.outcome) rows

-- How often the session of a row was told to try again.
abbrev pub agains_in : RowView → ℕ
agains_in row = count_by (λ (mark : Mark). is_again mark.response) row.marks

-- The counts of a transcript. The number of Agains stands still at its type's end.
abbrev pub tally_of : List RowView → Tally
tally_of rows =
    record {
      hits = count_of counted.Hit rows;
      stores = count_of counted.Stored rows;
      voids = count_of counted.Void rows;
      agains = min (sum_by agains_in rows) (2 ^ 64 - 1);
      bypasses = count_of counted.Bypass rows;
      commits = count_of counted.Committed rows;
      rejected = count_of counted.Rejected rows;
      refused = count_of counted.Refused rows;
    }
