use Rattle.std.specs.Prelude.{ℕ, List, ◌++◌, codes, decimal}
use Rattle.iq_outside.specs.declared.failures.ReadStop.{ReadStop}
use Rattle.iq_outside.specs.declared.failures.ReadStop.TheVariants.{Failed, Memory}

-- what a cause that stopped a reading is called in messages
abbrev pub stop_text : ReadStop → List ℕ
stop_text Failed = codes "the outside failed"
stop_text Memory = codes "out of memory"

-- the message of a write that stopped after so many bytes
abbrev pub short_text : ℕ → List ℕ
short_text written = codes "a write failed after " ++ decimal written ++ codes " bytes"
