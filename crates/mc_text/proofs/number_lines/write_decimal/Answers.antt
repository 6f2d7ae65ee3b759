use Rattle.std.proofs.Common.{List, ℕ, arith, sym, subst, [], ◌∷◌, decimal, ◌+◌, ◌/◌, ◌%◌}
use Rattle.mc_text.specs.ReplyParts.{Writes}
use Rattle.mc_text.proofs.DecimalLemmas.{two_digits}
use Rattle.mc_text.proofs.RoomLemmas.{writes_on, writes_one}
use Rattle.mc_text.proofs.number_lines.write_decimal.Goals as goal

pub returns-then-number-lt10-clause-writes : goal.returns-then-number-lt10-clause-writes
returns-then-number-lt10-clause-writes c =
    writes_one c.args.room.now c.write_byte.new.room c.args.at c.write_byte.result c.args.number (omega arith) c.write_byte.ensures

pub returns-then-number-lt100-clause-writes : goal.returns-then-number-lt100-clause-writes
returns-then-number-lt100-clause-writes c =
    let n = c.args.number in
    subst (λ (t : List ℕ). Writes c.args.room.now c.args.at t c.write_byte-then-number-lt100.new.room c.write_byte-then-number-lt100.result)
    (sym (two_digits n (omega arith) (omega arith)))
    (writes_on c.args.room.now c.write_byte-to.new.room c.write_byte-then-number-lt100.new.room c.args.at c.write_byte-to.result
    c.write_byte-then-number-lt100.result ((48 + n / 10) ∷ []) ((48 + n % 10) ∷ []) c.write_byte-to.ensures c.write_byte-then-number-lt100.ensures)
