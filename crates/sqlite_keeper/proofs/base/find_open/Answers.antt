use Rattle.std.proofs.Common.{◌≡◌, [], true, arith}
use Rattle.sqlite_keeper.proofs.BaseLemmas.{compiled_same}
use Rattle.sqlite_keeper.proofs.base.find_open.Goals as goal

pub returns-clause-same : goal.returns-clause-same
returns-clause-same g c = λ clean.
    let auto : c.is_autocommit.result ≡ true = grind arith in
    compiled_same g.S.Store c.args.conn.now c.prepare.new.self [] (λ s. s.text ≡ []) c.prepare.result (c.is_autocommit.ensures.settled auto) (c.prepare.ensures.ok clean)
    (c.prepare.ensures.err clean)
