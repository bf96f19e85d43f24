-- Lemmas on the answer to a match with its record.
use Rattle.std.proofs.Common.{◌≡◌, ◌≢◌, ◌∙◌, ℕ, List, refl, sym, subst, arith, Global, ◌≤◌, Option, Some, None, Vec, length}
use Rattle.rbg_console.specs.Files.{KnownFiles}
use Rattle.rbg_console.specs.Inputs.{most_input, IsAll, IsAbove}
use Rattle.rbg_console.specs.declared.status.Status.{Status}
use Rattle.rbg_console.specs.declared.status.Status.TheVariants.{Success, Refused, BadInput}
use Rattle.rbg_referee.proofs.AnswerLemmas.{fault_answer}
use Rattle.rbg_referee.specs.Answers.{script_line}
use Rattle.rbg_referee.specs.Faults.{AnswersFault}
use Rattle.rbg_referee.specs.Matches.IsNoInput.{no_mark, no_match}
use Rattle.rbg_referee.specs.Runs.IsReadersAnswer.{whole as whole_input, too_long as long_reader}
use Rattle.rbg_referee.specs.declared.input_error.RefereeingError.{RefereeingError}
use Rattle.rbg_referee.specs.declared.input_error.RefereeingError.TheVariants.{Load, Script, Memory}
use Rattle.rbg_macro.specs.TextLimits.{longest_text}
use Rattle.rbg_operations.specs.Recorded.{IsRecorded}
use Rattle.rbg_operations.specs.RecordRuns.IsRecordedAnswer.{recorded, unplayed, failed}
use Rattle.rbg_operations.specs.RecordRuns.{IsRecordedAnswer}
use Rattle.rbg_operations.specs.Tasks.IsInputOf.{whole as is_whole, too_long}
use Rattle.rbg_operations.specs.Tasks.{AbstractTask, AsksFor, IsInputOf, IsReadOf, on_file}
use Rattle.rbg_operations.specs.Tasks.FileCommand.{Referee}
use Rattle.rbg_operations.specs.internal.Parts.{task_of}
use Rattle.rbg_operations.specs.internal.RecordParts.{WritesRecord, RecordsMatch, RecordsTexts, RecordsInput, RecordsTask}
use Rattle.rbg_operations.specs.internal.RecordParts.WritesRecord.{written, unwritten}
use Rattle.rbg_operations.specs.internal.RecordParts.RecordsMatch.{recorded as has_record, unplayed as has_none, failed as has_failed}
use Rattle.rbg_operations.specs.internal.RecordParts.RecordsTexts.{created, uncreated}
use Rattle.rbg_operations.specs.internal.RecordParts.RecordsInput.{marked, unmarked}
use Rattle.rbg_operations.specs.internal.RecordParts.RecordsTask.{texts, plain}
use Rattle.rbg_operations.proofs.AnswerLemmas.{fault_answers, whole_answer}

bad_is_no_success : (status : Status) → status ≡ BadInput → status ≢ Success
bad_is_no_success status was same = absurd (let no : BadInput ≡ Success = sym was ∙ same in cc)

refused_is_no_success : (status : Status) → status ≡ Refused → status ≢ Success
refused_is_no_success status was same = absurd (let no : Refused ≡ Success = sym was ∙ same in cc)

fault_is_no_success : (error : RefereeingError) (text : List ℕ) (status : Status) → AnswersFault error text status → status ≢ Success
fault_is_no_success (Load error) text status says = refused_is_no_success status says.1
fault_is_no_success (Script number) text status says = bad_is_no_success status says.1
fault_is_no_success Memory text status says = absurd says

-- the record that was written is that of the match
pub record_written : (tells : Type 0) (after : Option (List ℕ)) (description script lines told text : List ℕ) (status : Status) → IsRecorded description script lines told → WritesRecord tells after lines told text status → RecordsMatch tells after description script text status
record_written tells after description script lines told text status is (written keeps same was) =
    has_record told (subst (λ l. IsRecorded description script l told) (sym same) is) keeps was
record_written tells after description script lines told text status is (unwritten same was) = has_failed same was

-- the answer to an input
pub input_answer : (tells : Type 0) (known after : KnownFiles) (unread left : Option (List ℕ)) (file input text : List ℕ) (status : Status) → IsAll most_input unread left input → RecordsInput tells (known file) (after file) input text status → IsRecordedAnswer tells known after unread left (record { file = None; record_file = file }) text status
input_answer tells known after unread left file input text status all (marked description script parts (created absent (has_record told is keeps was))) =
    recorded description script told (input, all, parts) is absent keeps was
input_answer tells known after unread left file input text status all (marked description script parts (created absent (has_none error why says))) =
    unplayed (whole_input input all (fault_answer input error text status (no_match description script parts why) says)) (fault_is_no_success error text status says)
input_answer tells known after unread left file input text status all (marked description script parts (created absent (has_failed is was))) = failed is was
input_answer tells known after unread left file input text status all (marked description script parts (uncreated is was)) = failed is was
input_answer tells known after unread left file input text status all (unmarked none is was) =
    unplayed (whole_input input all (fault_answer input (Script 0) text status (no_mark none refl) (is, was))) (bad_is_no_success status was)

-- the answer to too long an input
pub long_input_answer : (tells : Type 0) (known after : KnownFiles) (unread left : Option (List ℕ)) (file text : List ℕ) (status : Status) → IsAbove most_input unread left → text ≡ script_line 0 → status ≡ BadInput → IsRecordedAnswer tells known after unread left (record { file = None; record_file = file }) text status
long_input_answer tells known after unread left file text status above is was = unplayed (long_reader above is was) (bad_is_no_success status was)

-- what is within the limit was read whole
whole_input_of : (unread left : Option (List ℕ)) (script : List ℕ) → length script ≤ most_input → IsInputOf unread left script → IsAll most_input unread left script
whole_input_of unread left script fits (is_whole all) = all
whole_input_of unread left script fits (too_long above long may) = absurd (let no : ⊥ = omega (arith, fits, long) in no)

-- the answer to a task of a file's description
pub task_answer : (tells : Type 0) (known mid after : KnownFiles) (unread left : Option (List ℕ)) (file other : List ℕ) (task : AbstractTask) (text : List ℕ) (status : Status) → AsksFor known unread left (on_file Referee file) task → mid other ≡ known other → RecordsTask tells (mid other) (after other) task text status → IsRecordedAnswer tells known after unread left (record { file = Some file; record_file = other }) text status
task_answer tells known mid after unread left file other task text status asks kept (texts fits (created absent (has_record told is keeps was))) =
    recorded task.description task.told told (asks.description, whole_input_of unread left task.told fits asks.told) is (sym kept ∙ absent) keeps was
task_answer tells known mid after unread left file other task text status asks kept (texts fits (created absent (has_none error why says))) =
    unplayed (task, asks, whole_answer task Referee task.told text status asks.command refl (fault_answers task.description task.told error text status why says fits))
    (fault_is_no_success error text status says)
task_answer tells known mid after unread left file other task text status asks kept (texts fits (created absent (has_failed is was))) = failed is was
task_answer tells known mid after unread left file other task text status asks kept (texts fits (uncreated is was)) = failed is was
task_answer tells known mid after unread left file other task text status asks kept (plain answer other_status) = unplayed (task, asks, answer) other_status

-- both texts of a task were read
pub read_texts : (tells : Type 0) (known after : Option (List ℕ)) (read told : Option (Vec ℕ Global)) (whole bytes : List ℕ) (description script : Vec ℕ Global) (text : List ℕ) (status : Status) → read ≡ Some description → told ≡ Some script → IsReadOf longest_text read whole → IsReadOf most_input told bytes → RecordsTexts tells known after description.items script.items text status → RecordsTask tells known after (task_of Referee whole bytes) text status
read_texts tells known after read told whole bytes description script text status has also reads tells_script is =
    let d = subst (λ r. IsReadOf longest_text r whole) has reads in
    let t = subst (λ r. IsReadOf most_input r bytes) also tells_script in
    texts t.0 (subst (λ one. RecordsTexts tells known after one bytes text status) d.1 (subst (λ one. RecordsTexts tells known after description.items one text status) t.1 is))
