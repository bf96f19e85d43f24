-- The faults of a line, and the verdict on a record that has one.
use Rattle.std.specs.Prelude.{◌≡◌, ℕ, Result, Ok, Err}
use Rattle.rbg_search.specs.declared.over.Over.{Over as OverLimits}
use Rattle.rbg_search.specs.declared.over.Over.TheVariants.{Deep, Wide}
use Rattle.rbg_search.specs.declared.over.Over.TheVariants as limits
use Rattle.rbg_record.specs.declared.checked.Checked.{Checked}
use Rattle.rbg_record.specs.declared.checked.Checked.TheVariants as checked
use Rattle.rbg_record.specs.declared.error.RecordError.{RecordError}
use Rattle.rbg_record.specs.declared.error.RecordError.TheVariants as error
use Rattle.rbg_record.specs.declared.fault.LineFault.{LineFault}
use Rattle.rbg_record.specs.declared.fault.LineFault.TheVariants.{Form, Bad, Over, Memory}

-- the fault of a question that was not answered
abbrev pub fault_of : OverLimits → LineFault
fault_of Deep = Over
fault_of Wide = Over
fault_of limits.Memory = Memory

abbrev pub IsFaultOf : OverLimits → LineFault → Type 0
IsFaultOf over fault = fault ≡ fault_of over

-- the verdict on a record with a fault at a line
abbrev pub verdict_at : LineFault → (line : ℕ) → Result Checked RecordError
verdict_at Form line = Err (error.Form line)
verdict_at Bad line = Ok (checked.Bad line)
verdict_at Over line = Err (error.Over line)
verdict_at Memory line = Err error.Memory

-- a question was not answered: it is above the limits, or memory ran out
abbrev pub IsOverOrMemory : LineFault → Type 0
IsOverOrMemory Form = ⊥
IsOverOrMemory Bad = ⊥
IsOverOrMemory Over = Unit {0}
IsOverOrMemory Memory = Unit {0}
