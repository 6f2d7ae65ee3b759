use Rattle.std.proofs.Common.{Option, Some, ℤ, w32, ◌≡◌, refl, ap, subst, rules, ◌∙◌}
use mir.Val.{SFits}
use Rattle.std.proofs.lemmas.Int.{to_z-of_z}
use Rattle.std.specs.Option.{option_map}
use Rattle.rows_model.specs.declared.keys.QKey.{QKey}
use Rattle.key_shard.specs.Permit.{Permit}
use Rattle.mc_text.specs.declared.commands.Command.{Command}
use Rattle.mc_text.specs.declared.commands.Command.TheVariants as commands
use Rattle.session_client.specs.declared.replies.Wanted.TheVariants as wanted
use Rattle.lease_table.specs.declared.records.Mode.TheVariants as modes
use Rattle.conn_server.specs.Answers.{Makes}
use Rattle.conn_server.specs.Requests.{stamp_of}
use Rattle.conn_server.specs.Refusals.{key_word, named_sid, quarantines, releases, writes, shifts_no_count, is_other_mode}
use Rattle.conn_server.proofs.RefusalLemmas.{abortable, counted, goes_on, held, held_in, not_unkeyed, roomy}
use Rattle.conn_server.proofs.AnswerLemmas.{asks_calls, asks_known}
use Rattle.conn_server.proofs.clients.Client.carry_out.Goals as goal

pub returns-in-IqGet-Some-default-default-clause-answers : goal.returns-in-IqGet-Some-default-default-clause-answers
returns-in-IqGet-Some-default-default-clause-answers g c =
    let at = c.in-IqGet-Some-default-default in
    let found : at.key' ≡ Some at.key = rw at.is at at.key-is in
    let is = (at.is ∙ ap (λ (key : Option QKey). commands.IqGet key at.sid at.floor) found) in
    asks_known _ _ _ _ (wanted.Get at.key at.floor) c.args.said
    (commands.IqGet (Some at.key) at.sid at.floor) _
    is c.requires.passes refl (c.get.ensures.answers at.sid) (λ calls made. made)

pub returns-in-Ask-Some-default-clause-answers : goal.returns-in-Ask-Some-default-clause-answers
returns-in-Ask-Some-default-clause-answers g c =
    let at = c.in-Ask-Some-default in
    let found : at.key' ≡ Some at.key = rw at.is at at.key-is in
    let is = (at.is ∙ ap (λ (key : Option QKey). commands.Ask key at.sid) found) in
    asks_known _ _ _ _ (wanted.Ask at.key) c.args.said
    (commands.Ask (Some at.key) at.sid) _
    is c.requires.passes refl (c.ask.ensures.answers at.sid) (λ calls made. made)

pub returns-in-Stage-Some-default-default-clause-answers : goal.returns-in-Stage-Some-default-default-clause-answers
returns-in-Stage-Some-default-default-clause-answers g c =
    let at = c.in-Stage-Some-default-default in
    let is = (at.is ∙ ap (λ (key : Option QKey). commands.Stage key at.sid at.txn) at.key-is) in
    asks_known _ _ _ _ (wanted.Staged at.key at.txn) c.args.said
    (commands.Stage (Some at.key) at.sid at.txn) _
    is c.requires.passes refl (c.stage.ensures.answers at.sid) (λ calls made. made)

pub returns-in-IqSet-Some-default-default-default-default-default-default-clause-answers : goal.returns-in-IqSet-Some-default-default-default-default-default-default-clause-answers
returns-in-IqSet-Some-default-default-default-default-default-default-clause-answers g c =
    let at = c.in-IqSet-Some-default-default-default-default-default-default in
    let is = (at.is
    ∙ ap (λ (key : Option QKey). commands.IqSet key at.flags at.exptime at.bytes at.token at.stamp at.block) at.key-is) in
    asks_known _ _ _ _ (wanted.Set at.key at.token at.block at.stamp) c.args.said
    (commands.IqSet (Some at.key) at.flags at.exptime at.bytes at.token at.stamp at.block) _
    is c.requires.passes refl (c.set.ensures.answers at.flags at.exptime at.bytes) (λ calls made. made)

pub invalidate-requires : goal.invalidate-requires
invalidate-requires g c =
    let at = c.in-QaReg-Some-default in
    roomy _ c.args.said (ap quarantines at.is) c.requires.passes

pub returns-in-QaReg-Some-default-clause-answers : goal.returns-in-QaReg-Some-default-clause-answers
returns-in-QaReg-Some-default-clause-answers g c =
    let at = c.in-QaReg-Some-default in
    let found : at.key' ≡ Some at.key = rw at.is at at.key-is in
    let is = (at.is ∙ ap (λ (key : Option QKey). commands.QaReg key at.sid) found) in
    asks_known _ _ _ _ (wanted.QaReg at.key) c.args.said
    (commands.QaReg (Some at.key) at.sid) _
    is c.requires.passes refl (c.invalidate.ensures.answers at.sid) (λ calls made. made)

pub refresh-requires : goal.refresh-requires
refresh-requires g c =
    let at = c.in-QaRead-Some-default in
    roomy _ c.args.said (ap quarantines at.is) c.requires.passes

pub returns-in-QaRead-Some-default-clause-answers : goal.returns-in-QaRead-Some-default-clause-answers
returns-in-QaRead-Some-default-clause-answers g c =
    let at = c.in-QaRead-Some-default in
    let found : at.key' ≡ Some at.key = rw at.is at at.key-is in
    let is = (at.is ∙ ap (λ (key : Option QKey). commands.QaRead key at.sid) found) in
    asks_known _ _ _ _ (wanted.QaRead at.key) c.args.said
    (commands.QaRead (Some at.key) at.sid) _
    is c.requires.passes refl (c.refresh.ensures.answers at.sid) (λ calls made. made)

pub shift-requires-clause-room : goal.shift-requires-clause-room
shift-requires-clause-room g c =
    let at = c.in-IqDelta-Some-default-default in
    roomy _ c.args.said (ap quarantines at.is) c.requires.passes

pub shift-requires-clause-count : goal.shift-requires-clause-count
shift-requires-clause-count g c =
    let at = c.in-IqDelta-Some-default-default in
    let found : at.key' ≡ Some at.key = rw at.is at at.key-is in
    let is = (at.is ∙ ap (λ (key : Option QKey). commands.IqDelta key at.sid at.by) found) in
    counted _ c.args.said at.key (ap shifts_no_count is) c.requires.passes

pub returns-in-IqDelta-Some-default-default-clause-answers : goal.returns-in-IqDelta-Some-default-default-clause-answers
returns-in-IqDelta-Some-default-default-clause-answers g c =
    let at = c.in-IqDelta-Some-default-default in
    let found : at.key' ≡ Some at.key = rw at.is at at.key-is in
    let is = (at.is ∙ ap (λ (key : Option QKey). commands.IqDelta key at.sid at.by) found) in
    let fits : SFits w32 at.by = search rules in
    let makes = subst (λ (by : ℤ). Makes (g.D.Desk.record_of c.args.desk.now) (g.D.Desk.record_of c.shift.new.desk) c.args.self.now
    (wanted.Delta at.key by) (commands.IqDelta (Some at.key) at.sid by) c.shift.result c.shift.new.self)
    (to_z-of_z w32 at.by fits) (c.shift.ensures.answers at.sid) in
    asks_known _ _ _ _ (wanted.Delta at.key at.by) c.args.said
    (commands.IqDelta (Some at.key) at.sid at.by) _
    is c.requires.passes refl makes (λ calls made. made)

pub drop_value-requires : goal.drop_value-requires
drop_value-requires g c =
    let at = c.in-Dar-Some-default in
    let found : at.key' ≡ Some at.key = rw at.is at at.key-is in
    let is = (at.is ∙ ap (λ (key : Option QKey). commands.Dar key at.sid) found) in
    held _ c.args.said at.key (ap releases is) (ap key_word is) c.requires.passes

pub returns-in-Dar-Some-default-clause-answers : goal.returns-in-Dar-Some-default-clause-answers
returns-in-Dar-Some-default-clause-answers g c =
    let at = c.in-Dar-Some-default in
    let found : at.key' ≡ Some at.key = rw at.is at at.key-is in
    let is = (at.is ∙ ap (λ (key : Option QKey). commands.Dar key at.sid) found) in
    let (grant, first, made) = c.drop_value.ensures.answers in
    asks_known _ _ _ _ (wanted.Dar grant) c.args.said (commands.Dar (Some at.key) at.sid) _ is c.requires.passes
    (ap (option_map (λ (given : Permit). wanted.Dar given)) first) (made at.sid) (λ calls made. made)

pub put-requires : goal.put-requires
put-requires g c =
    let at = c.in-Sar-Some-default-default-default-default-default in
    let is = (at.is
    ∙ ap (λ (key : Option QKey). commands.Sar key at.flags at.exptime at.bytes at.sid at.block) at.key-is) in
    held_in modes.Refresh _ c.args.said at.key
    (ap releases is) (ap key_word is) (λ found. ap (λ (s : Command). is_other_mode s found) is) c.requires.passes

pub returns-in-Sar-Some-default-default-default-default-default-clause-answers : goal.returns-in-Sar-Some-default-default-default-default-default-clause-answers
returns-in-Sar-Some-default-default-default-default-default-clause-answers g c =
    let at = c.in-Sar-Some-default-default-default-default-default in
    let is = (at.is
    ∙ ap (λ (key : Option QKey). commands.Sar key at.flags at.exptime at.bytes at.sid at.block) at.key-is) in
    let (grant, first, made) = c.put.ensures.answers in
    asks_known _ _ _ _ (wanted.Sar grant (Some at.block) (stamp_of c.args.self.now.present)) c.args.said
    (commands.Sar (Some at.key) at.flags at.exptime at.bytes at.sid at.block) _
    is c.requires.passes
    (ap (option_map (λ (given : Permit). wanted.Sar given (Some at.block) (stamp_of c.args.self.now.present))) first)
    (made at.flags at.exptime at.bytes at.sid) (λ calls made. made)

pub apply-requires : goal.apply-requires
apply-requires g c =
    let at = c.in-IqCommit-Some-default in
    let found : at.key' ≡ Some at.key = rw at.is at at.key-is in
    let is = (at.is ∙ ap (λ (key : Option QKey). commands.IqCommit key at.sid) found) in
    held_in modes.Delta _ c.args.said at.key
    (ap releases is) (ap key_word is) (λ found. ap (λ (s : Command). is_other_mode s found) is) c.requires.passes

pub returns-in-IqCommit-Some-default-clause-answers : goal.returns-in-IqCommit-Some-default-clause-answers
returns-in-IqCommit-Some-default-clause-answers g c =
    let at = c.in-IqCommit-Some-default in
    let found : at.key' ≡ Some at.key = rw at.is at at.key-is in
    let is = (at.is ∙ ap (λ (key : Option QKey). commands.IqCommit key at.sid) found) in
    let (grant, first, made) = c.apply.ensures.answers in
    asks_known _ _ _ _ (wanted.Apply grant (stamp_of c.args.self.now.present)) c.args.said
    (commands.IqCommit (Some at.key) at.sid) _
    is c.requires.passes
    (ap (option_map (λ (given : Permit). wanted.Apply given (stamp_of c.args.self.now.present))) first) (made at.sid) (λ calls made. made)

pub returns-in-Sql-clause-answers : goal.returns-in-Sql-clause-answers
returns-in-Sql-clause-answers g c =
    asks_known _ _ _ _ (wanted.Commit c.in-Sql.txn c.args.self.now.grants) c.args.said _ _ c.in-Sql.is c.requires.passes refl (c.commit.ensures.answers c.in-Sql.sid) (λ calls made. made)

pub returns-in-Begin-clause-answers : goal.returns-in-Begin-clause-answers
returns-in-Begin-clause-answers g c =
    let (calls, record_is, begins) = c.begin.ensures.answers in
    asks_calls _ _ _ _ c.args.said (commands.Begin c.in-Begin.role) _ calls c.in-Begin.is c.requires.passes record_is begins

pub abort-requires : goal.abort-requires
abort-requires g c = abortable _ c.args.said c.in-IqAbort.sid (ap named_sid c.in-IqAbort.is) (ap writes c.in-IqAbort.is) c.requires.passes

pub returns-in-IqAbort-clause-answers : goal.returns-in-IqAbort-clause-answers
returns-in-IqAbort-clause-answers g c =
    let (calls, record_is, aborts) = c.abort.ensures.answers in
    asks_calls _ _ _ _ c.args.said (commands.IqAbort c.in-IqAbort.sid) _ calls c.in-IqAbort.is c.requires.passes record_is aborts

pub unreachable-requires : goal.unreachable-requires
unreachable-requires g c = elim c.in_default.branch [
  | goal.in_default-via-in-IqGet+in_default w ↦ not_unkeyed _ c.args.said w.in_default.field-0 (ap key_word w.in_default.is) c.requires.passes (search rules)
  | goal.in_default-via-in-Ask+in_default w ↦ not_unkeyed _ c.args.said w.in_default.field-0 (ap key_word w.in_default.is) c.requires.passes (search rules)
  | goal.in_default-via-in-Stage+in_default w ↦ not_unkeyed _ c.args.said w.in_default.field-0 (ap key_word w.in_default.is) c.requires.passes (search rules)
  | goal.in_default-via-in-IqSet+in_default w ↦ not_unkeyed _ c.args.said w.in_default.field-0 (ap key_word w.in_default.is) c.requires.passes (search rules)
  | goal.in_default-via-in-QaReg+in_default w ↦ not_unkeyed _ c.args.said w.in_default.field-0 (ap key_word w.in_default.is) c.requires.passes (search rules)
  | goal.in_default-via-in-QaRead+in_default w ↦ not_unkeyed _ c.args.said w.in_default.field-0 (ap key_word w.in_default.is) c.requires.passes (search rules)
  | goal.in_default-via-in-IqDelta+in_default w ↦ not_unkeyed _ c.args.said w.in_default.field-0 (ap key_word w.in_default.is) c.requires.passes (search rules)
  | goal.in_default-via-in-Dar+in_default w ↦ not_unkeyed _ c.args.said w.in_default.field-0 (ap key_word w.in_default.is) c.requires.passes (search rules)
  | goal.in_default-via-in-Sar+in_default w ↦ not_unkeyed _ c.args.said w.in_default.field-0 (ap key_word w.in_default.is) c.requires.passes (search rules)
  | goal.in_default-via-in-IqCommit+in_default w ↦ not_unkeyed _ c.args.said w.in_default.field-0 (ap key_word w.in_default.is) c.requires.passes (search rules)
  | goal.in_default-via-in_default w ↦ goes_on _ c.args.said (search rules) c.requires.goes_on c.requires.passes
]
