use Rattle.std.proofs.Common.{rules, ◌≡◌, ◌++◌, ◌∷◌, ◌+◌, ◌<◌, ◌^◌, [], true, List, length, filter, refl, sym, ap, subst, ◌∙◌, append-nil, length-append, arith}
use Rattle.std.specs.Prelude.{Ok, All}
use Rattle.std.proofs.lemmas.List.Elements.{All-nil, All-cons, All-append}
use Rattle.rows_model.specs.declared.keys.QKey.{QKey}
use Rattle.entry_table.specs.Entries.{Item, keys}
use Rattle.entry_table.proofs.EntriesLemmas.{length-keys}
use Rattle.key_shard.specs.Past.{order}
use Rattle.key_shard.specs.Shards.{past_of}
use Rattle.sql_keeper.specs.Stores.{Ledger, rows_of}
use Rattle.shard_dump.specs.declared.rows.DumpRow.{DumpRow}
use Rattle.shard_dump.specs.Answered.{AreAmong, is_answered, may_stand}
use Rattle.shard_dump.proofs.DumpLemmas.{none_left}
use Rattle.shard_dump.proofs.AnsweredLemmas.{MayGoOn, TakesRight, goes_with, right_rows, right_with, row_in, rows_are, rows_back}
use Rattle.shard_dump.proofs.answered.rows_answered.Goals as goal

pub loop-key-preserved-in-Continue-branch-3 : goal.loop-key-preserved-in-Continue-branch-3
loop-key-preserved-in-Continue-branch-3 g c =
    let was = c.loop-key.invariant in
    let left : List Item = c.pop.new.self.items in
    let item : Item = (c.in-Some.key, c.in-Some.value, c.in-Some._stamp) in
    let rows : List DumpRow = c.loop-key.rows.items in
    let first : List DumpRow = rows_back c.in_ok-entries.entries.items in
    let tables = rows_of c.args.store.now.ledger in
    let next : c.loop-key.entries.items ≡ left ++ item ∷ [] = c.in-Some.ensures.items in
    let same : c.push_row.new.rows.items ≡ rows ++ row_in item ∷ [] = c.in_ok-push_row.ensures in
    let stands : may_stand (row_in item) ≡ true = c.in_ok-is_answered.ensures.stands (ap (λ b. Ok b) c.if-branch.true) in
    let more : length c.push_row.new.rows.items ≡ length rows + 1 = ap (λ (l : List DumpRow). length l) same ∙ length-append rows (row_in item ∷ []) in
    let less : length c.loop-key.entries.items ≡ length left + 1 = ap (λ (l : List Item). length l) next ∙ length-append left (item ∷ []) in
    let few = was.few in
    let small : c.in-Some.key.id < 2 ^ 32 = search rules in
    record {
      among = subst (λ (l : List DumpRow). MayGoOn l left first) (sym same)
          (goes_with rows left item first (subst (λ (l : List Item). MayGoOn rows l first) next was.among));
      right = λ some.
          let is : is_answered tables (row_in item) ≡ true =
          ap (λ (l : Ledger). is_answered (rows_of l) (row_in item)) (sym was.ledger) ∙ sym (c.in_ok-is_answered.ensures.right some) ∙ c.if-branch.true in
          let all = right_rows tables c.in_ok-entries.entries.items in
          subst (λ (l : List DumpRow). TakesRight tables l left all) (sym same)
          (right_with tables rows left item all is
          (subst (λ (l : List Item). TakesRight tables rows l all) next (was.right (c.in_ok-is_answered.ensures.tells some))));
      few = omega (arith, few, more, less);
      stand = subst (All (λ (row : DumpRow). may_stand row ≡ true)) (sym same)
          (All-append (λ (row : DumpRow). may_stand row ≡ true) rows (row_in item ∷ []) was.stand
          (All-cons (λ (row : DumpRow). may_stand row ≡ true) (row_in item) [] stands (All-nil (λ (row : DumpRow). may_stand row ≡ true))));
      ids = subst (All (λ (row : DumpRow). row.key.id < 2 ^ 32)) (sym same)
          (All-append (λ (row : DumpRow). row.key.id < 2 ^ 32) rows (row_in item ∷ []) was.ids
          (All-cons (λ (row : DumpRow). row.key.id < 2 ^ 32) (row_in item) [] small (All-nil (λ (row : DumpRow). row.key.id < 2 ^ 32))));
      ledger = c.in_ok-is_answered.ensures.ledger ∙ was.ledger;
      tells = λ some. was.tells (c.in_ok-is_answered.ensures.tells some);
      faults = c.in_ok-is_answered.ensures.counts ∙ was.faults;
    }

pub returns-clause-among : goal.returns-clause-among
returns-clause-among g c =
    let none : c.loop-key.entries.items ≡ [] = none_left c.loop-key.entries.items (omega (arith, c.in_default.ensures.cases.0)) in
    let first : List DumpRow = rows_back c.in_ok-entries.entries.items in
    let are : AreAmong (c.loop-key.rows.items ++ []) first =
    c.loop-key.invariant.among [] (subst (λ (l : List Item). AreAmong [] (rows_back l)) (sym none) refl) in
    subst (AreAmong c.loop-key.rows.items)
    (rows_are (past_of c.args.shard.now) c.in_ok-entries.entries.items c.in_ok-entries.ensures.entries c.in_ok-entries.ensures.order)
    (subst (λ (l : List DumpRow). AreAmong l first) (append-nil c.loop-key.rows.items) are)

pub returns-clause-right : goal.returns-clause-right
returns-clause-right g c = λ some.
    let none : c.loop-key.entries.items ≡ [] = none_left c.loop-key.entries.items (omega (arith, c.in_default.ensures.cases.0)) in
    let tables = rows_of c.args.store.now.ledger in
    sym (append-nil c.loop-key.rows.items)
    ∙ ap (λ (l : List Item). c.loop-key.rows.items ++ filter (is_answered tables) (rows_back l)) (sym none)
    ∙ c.loop-key.invariant.right some
    ∙ ap (filter (is_answered tables))
    (rows_are (past_of c.args.shard.now) c.in_ok-entries.entries.items c.in_ok-entries.ensures.entries c.in_ok-entries.ensures.order)

pub returns-clause-few : goal.returns-clause-few
returns-clause-few g c =
    let few = c.loop-key.invariant.few in
    let counted = length-keys c.in_ok-entries.entries.items in
    let same : length (keys c.in_ok-entries.entries.items) ≡ length (order (past_of c.args.shard.now)) =
    ap (λ (ks : List QKey). length ks) c.in_ok-entries.ensures.order in
    omega (arith, few, counted, same)
