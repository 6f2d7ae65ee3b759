use Rattle.mc_text.proofs.PlainNumberLemmas.{plain_number_is}
use Rattle.mc_text.proofs.plain_numbers.plain_number.Goals as goal

pub returns : goal.returns
returns c = plain_number_is c.args.bytes.now c.number_of.result c.number_of.ensures.found c.number_of.ensures.none
