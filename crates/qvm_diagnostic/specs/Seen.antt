-- How the details of the code are seen.
use Rattle.std.specs.Prelude.{pos}
use Rattle.qvm_diagnostic.specs.declared.detail.Detail.{Detail}
use Rattle.qvm_diagnostic.specs.declared.detail.Detail.TheVariants.{Count, Signed, Word as Named}
use Rattle.qvm_diagnostic.specs.Report.{Value, Number, Word}

abbrev pub value_of : Detail → Value
value_of (Count n) = Number (pos n)
value_of (Signed n) = Number n
value_of (Named w) = Word w.now
