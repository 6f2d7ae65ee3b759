-- A connection over a store may go to another thread where the store may. Each part has its fact.
use denote.RattleType.{RattleType}
use denote.Param.Send.{IsSend, sendable}
use Rattle.std.proofs.Crossing.{crosses}
use Rattle.sqlite_trees.specs.declared.store.Store as store
use Rattle.sqlite_items.specs.contracts.Items as Items
use Rattle.sqlite_value.specs.contracts.value.Bytes as Bytes
use Rattle.sqlite_value.specs.contracts.value.Value as Value
use Rattle.sqlite_value.specs.contracts.row.Row as Row
use Rattle.sqlite_schema.specs.contracts.code.Op as Op
use Rattle.sqlite_schema.specs.contracts.code.Terms as Terms
use Rattle.sqlite_schema.specs.contracts.schema.Column as Column
use Rattle.sqlite_schema.specs.contracts.schema.Reference as Reference
use Rattle.sqlite_schema.specs.contracts.schema.Stamps as Stamps
use Rattle.sqlite_schema.specs.contracts.schema.Table as Table
use Rattle.sqlite_schema.specs.contracts.schema.Index as Index
use Rattle.sqlite_schema.specs.contracts.schema.View as View
use Rattle.sqlite_schema.specs.contracts.schema.Schema as Schema
use Rattle.sqlite_schema.specs.contracts.program.Program as Program
use Rattle.sqlite_schema.specs.contracts.program.Table as Let
use Rattle.sqlite_schema.specs.contracts.plan.Stage as Stage
use Rattle.sqlite_schema.specs.contracts.plan.Groups as Groups
use Rattle.sqlite_sql.specs.contracts.query.SortKey as SortKey
use Rattle.sqlite_schema.specs.contracts.plan.Plan as Plan
use Rattle.sqlite_schema.specs.contracts.command.Source as Source
use Rattle.sqlite_schema.specs.contracts.command.Upsert as Upsert
use Rattle.sqlite_schema.specs.contracts.command.Returning as Returning
use Rattle.sqlite_schema.specs.contracts.command.Command as Command
use Rattle.sqlite_resolve.specs.contracts.compiled.Compiled as Compiled
use Rattle.sqlite_exec.specs.contracts.work.Workspace as Workspace
use Rattle.sqlite_exec.specs.contracts.stream.Stream as Stream
use Rattle.sqlite.specs.contracts.cache.Entry as Entry
use Rattle.sqlite.specs.contracts.clock.WallClock as WallClock
use Rattle.sqlite.specs.contracts.history.History as History
use Rattle.sqlite.specs.contracts.run.reading.Reading as Reading
use Rattle.sqlite.specs.contracts.connection.Connection as Connection

bytes_send : IsSend (Bytes.the_field).row
bytes_send = search (sendable, crosses) depth 100 fits 20000

value_send : IsSend (Value.the_field).row
value_send = search (sendable, crosses, bytes_send) depth 100 fits 20000

row_send : IsSend (Row.the_field).row
row_send = search (sendable, crosses) depth 100 fits 20000

op_send : IsSend (Op.the_field).row
op_send = search (sendable, crosses, value_send) depth 100 fits 20000

module _ (T : RattleType) where
  items_send : IsSend T → IsSend (Items.the_field T).row
  items_send s = search (sendable, crosses) depth 100 fits 20000

terms_send : IsSend (Terms.the_field).row
terms_send = search (sendable, crosses, op_send) depth 100 fits 20000

column_send : IsSend (Column.the_field).row
column_send = search (sendable, crosses, bytes_send, value_send) depth 100 fits 20000

reference_send : IsSend (Reference.the_field).row
reference_send = search (sendable, crosses, items_send, bytes_send) depth 100 fits 20000

stamps_send : IsSend (Stamps.the_field).row
stamps_send = search (sendable, crosses, items_send, terms_send, bytes_send) depth 100 fits 20000

table_send : IsSend (Table.the_field).row
table_send = search (sendable, crosses, items_send, terms_send, bytes_send, column_send, reference_send, stamps_send) depth 100 fits 20000

index_send : IsSend (Index.the_field).row
index_send = search (sendable, crosses, items_send, bytes_send) depth 100 fits 20000

view_is_send : IsSend (View.the_field).row
view_is_send = search (sendable, crosses, bytes_send) depth 100 fits 20000

schema_send : IsSend (Schema.the_field).row
schema_send = search (sendable, crosses, items_send, table_send, index_send, view_is_send) depth 100 fits 20000

history_send : IsSend (History.the_field).row
history_send = search (sendable, crosses, schema_send, bytes_send) depth 100 fits 20000

stage_send : IsSend (Stage.the_field).row
stage_send = search (sendable, crosses, items_send) depth 100 fits 20000

groups_send : IsSend (Groups.the_field).row
groups_send = search (sendable, crosses, items_send) depth 100 fits 20000

sort_send : IsSend (SortKey.the_field).row
sort_send = search (sendable, crosses) depth 100 fits 20000

plan_send : IsSend (Plan.the_field).row
plan_send = search (sendable, crosses, items_send, op_send, stage_send, groups_send, sort_send) depth 100 fits 20000

let_send : IsSend (Let.the_field).row
let_send = search (sendable, crosses, items_send, plan_send) depth 100 fits 20000

program_send : IsSend (Program.the_field).row
program_send = search (sendable, crosses, items_send, let_send, plan_send) depth 100 fits 20000

source_send : IsSend (Source.the_field).row
source_send = search (sendable, crosses, program_send, terms_send) depth 100 fits 20000

upsert_send : IsSend (Upsert.the_field).row
upsert_send = search (sendable, crosses, program_send, items_send) depth 100 fits 20000

command_send : IsSend (Command.the_field).row
command_send = search (sendable, crosses, items_send, program_send, source_send, upsert_send, value_send, bytes_send) depth 100 fits 20000

returning_send : IsSend (Returning.the_field).row
returning_send = search (sendable, crosses, items_send, bytes_send, source_send) depth 100 fits 20000

compiled_send : IsSend (Compiled.the_field).row
compiled_send = search (sendable, crosses, command_send, returning_send, items_send, bytes_send) depth 100 fits 20000

entry_send : IsSend (Entry.the_field).row
entry_send = search (sendable, crosses, compiled_send, bytes_send) depth 100 fits 20000

work_send : IsSend (Workspace.the_field).row
work_send = search (sendable, crosses, row_send) depth 100 fits 20000

stream_send : IsSend (Stream.the_field).row
stream_send = search (sendable, crosses, row_send) depth 100 fits 20000

reading_send : IsSend (Reading.the_field).row
reading_send = search (sendable, crosses, row_send, stream_send) depth 100 fits 20000

clock_send : IsSend (WallClock.the_field).row
clock_send = search (sendable, crosses) depth 100 fits 20000

module _ (S : RattleType) (g : store.Ghosts S.Denot) where
  pub connection_send : IsSend S → IsSend (Connection.the_field S g).row
  connection_send s = search (sendable, crosses, schema_send, history_send, entry_send, row_send, clock_send, reading_send, work_send) depth 100 fits 20000
