use Rattle.mc_text.proofs.PlainLineLemmas.{no_key, no_flags, no_exptime, no_bytes, begin_with}
use Rattle.mc_text.specs.Words.{words_in}
use Rattle.mc_text.proofs.plain_lines.take_fields.Goals as goal

pub returns-in_err-key-clause-none : goal.returns-in_err-key-clause-none
returns-in_err-key-clause-none c = rw c.from_residual.ensures (no_key (words_in c.args.args.now) c.in_err-key.ensures.none)

pub returns-in_err-flags-clause-none : goal.returns-in_err-flags-clause-none
returns-in_err-flags-clause-none c = rw c.from_residual-in_err-flags.ensures (no_flags _ _ _ c.in_ok-key.ensures.found c.in_err-flags.ensures.none)

pub returns-in_err-expires-clause-none : goal.returns-in_err-expires-clause-none
returns-in_err-expires-clause-none c =
    rw c.from_residual-in_err-expires.ensures
    (no_exptime _ _ _ _ _ c.in_ok-key.ensures.found c.in_ok-flags.ensures.found.words_are c.in_err-expires.ensures.none)

pub returns-in_err-bytes-clause-none : goal.returns-in_err-bytes-clause-none
returns-in_err-bytes-clause-none c =
    rw c.from_residual-in_err-bytes.ensures
    (no_bytes _ _ _ _ _ _ _ c.in_ok-key.ensures.found c.in_ok-flags.ensures.found.words_are c.in_ok-expires.ensures.found.words_are c.in_err-bytes.ensures.none)

pub returns-clause-found : goal.returns-clause-found
returns-clause-found c =
    begin_with _ _ _ _ _ _ c.in_ok-key.ensures.found c.in_ok-key.ensures.key c.in_ok-flags.ensures.found c.in_ok-expires.ensures.found c.in_ok-bytes.ensures.found
