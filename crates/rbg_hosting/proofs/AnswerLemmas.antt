-- What comes of a hall that was served.
use Rattle.rbg_base.proofs.Common.{◌≡◌, ℕ, Bool, true, false, List, [], ◌++◌, Option, Result, Ok, Err, IfOk, OnOk, length, length-replicate, replicate, ap, sym, ◌∙◌, refl, subst}
use Rattle.rbg_hall.proofs.Common.{AbstractTable, HallState, HeldHall}
use Rattle.rbg_script.specs.Events.{AbstractEvent}
use Rattle.rbg_match.specs.declared.config.Config.{Config}
use Rattle.rbg_network.specs.Archives.{Handed, is_any_lost}
use Rattle.rbg_referee.specs.declared.answer.Answer.{Answer}
use Rattle.rbg_hosting.specs.Archives.{IsArchivedRun, wanted_of}
use Rattle.rbg_script.specs.Scripts.{AbstractScript}
use Rattle.rbg_hosting.specs.Moments.{GoesOnAfter, HearsPast}
use Rattle.rbg_hosting.specs.Moments.HearsPast.{all}
use Rattle.rbg_hosting.specs.Pasts.{past_in}
use Rattle.rbg_hosting.specs.Records.{AreHallsRecords, HasEnded}
use Rattle.rbg_hosting.specs.Served.{HasOutcome, IsArchivedHall, IsOutcome, status_for}
use Rattle.rbg_hosting.specs.Served.IsOutcome.{ended, stopped}
use Rattle.rbg_hosting.specs.Tables.{AreTablesOf}
use Rattle.rbg_hosting.specs.declared.fault.ServingFault.{ServingFault}
use Rattle.rbg_hosting.specs.declared.recorded_hall.RecordedHall.{RecordedHall}
use Rattle.rbg_hosting.specs.declared.recorder.Recorder.{Recorder}
use Rattle.rbg_hosting.specs.internal.Recorded.{AnswersRecords, AnswersServed, ArePlaces, HasArchived, IsFresh, RunEnds, places}

-- what holds of a success leads to something else
pub on_ok : {U E : Type 0} {P Q : Type 0} (result : Result U E) → (P → Q) → OnOk result P → OnOk result Q
on_ok (Ok _) leads known = leads known
on_ok (Err _) leads known = tt {0}

-- the records of a hall that was served to its end
pub records_printed : {W A U : Type 0} (served : Result U ServingFault) (result : Result Answer ServingFault) (recorded : RecordedHall W A) (config : Config) (descriptions : List (List ℕ)) (tables : List AbstractTable) (matches : ℕ) →
    AreTablesOf config descriptions tables →
    length tables ≡ matches →
    OnOk served (HasEnded tables recorded.hall.state) →
    AnswersServed (AnswersRecords matches recorded) recorded.recorder.lost served result →
    IfOk result (λ answer. AreHallsRecords config descriptions answer.text.items)
records_printed (Err fault) result recorded config descriptions tables matches are as_many over answers =
    subst (λ (one : Result Answer ServingFault). IfOk one (λ answer. AreHallsRecords config descriptions answer.text.items)) (sym answers) (tt {0})
records_printed (Ok _) (Err fault) recorded config descriptions tables matches are as_many over answers = tt {0}
records_printed (Ok _) (Ok answer) recorded config descriptions tables matches are as_many over answers =
    record {
      tables = tables;
      are = are;
      state = recorded.hall.state;
      ended = over;
      printed_so = answers.0 tables as_many over;
    }

-- a recorder that has handed over nothing
pub fresh_recorder : {A : Type 0} (told : A → List Handed → Type 0) (recorder : Recorder A) (archive : A) (noted : List Bool) (wants : Bool) (matches : ℕ) →
    recorder.archive ≡ archive → recorder.noted.items ≡ noted → recorder.lost ≡ false → ArePlaces wants matches noted → told archive [] →
    IsFresh told recorder × (places recorder ≡ wanted_of wants matches)
fresh_recorder told recorder archive noted wants matches of_archive of_noted of_lost are empty =
    let as_many : places recorder ≡ wanted_of wants matches = ap length (of_noted ∙ are) ∙ length-replicate (wanted_of wants matches) false in (
      record {
        has = record { account = subst (λ one. told one []) (sym of_archive) empty; lost = of_lost };
        noted = of_noted ∙ are ∙ ap (λ n. replicate n false) (sym as_many);
      },
      as_many,
    )

-- what was handed to the archive, with its run
archived_hall : {A : Type 0} {told : A → List Handed → Type 0} (config : Config) (descriptions : List (List ℕ)) (wants : Bool) (tables : List AbstractTable) (matches : ℕ) (events : List AbstractEvent) (recorder : Recorder A) {state : HallState} →
    AreTablesOf config descriptions tables →
    length tables ≡ matches →
    (archived : HasArchived told tables (wanted_of wants matches) events recorder state) →
    IsArchivedHall config descriptions wants tables events state archived.handed
archived_hall config descriptions wants tables matches events recorder {state} are as_many archived = record {
  are = are;
  queues = archived.queues;
  run = subst (λ n. IsArchivedRun tables n events state archived.queues archived.handed) (ap (wanted_of wants) (sym as_many)) archived.run;
}

-- what comes of it
pub outcome_so : {W A C U : Type 0} (told : A → List Handed → Type 0) (clock : C → List ℕ → Type 0) (served : Result U ServingFault) (result : Result Answer ServingFault) (recorded : RecordedHall W A) (config : Config) (descriptions : List (List ℕ)) (pasts : List (Option AbstractScript)) (wants : Bool) (tables : List AbstractTable) (matches : ℕ) (past : List AbstractEvent) →
    AreTablesOf config descriptions tables →
    length tables ≡ matches →
    past ≡ past_in tables pasts →
    OnOk served (HasEnded tables recorded.hall.state) →
    RunEnds told clock tables (wanted_of wants matches) past recorded served →
    AnswersServed (AnswersRecords matches recorded) recorded.recorder.lost served result →
    HasOutcome told clock config descriptions pasts wants recorded.recorder.archive result
outcome_so told clock (Err fault) result recorded config descriptions pasts wants tables matches past are as_many is_past over run answers =
    subst (λ (one : Result Answer ServingFault). HasOutcome told clock config descriptions pasts wants recorded.recorder.archive one) (sym answers)
    (record {
      handed = run.archived.handed;
      account = run.archived.has.account;
      outcome = stopped tables run.events run.state fault
          (archived_hall config descriptions wants tables matches run.events recorded.recorder are as_many run.archived)
          (subst (λ p. HearsPast clock tables p run.events) is_past run.hears)
          (λ lost. run.device (run.archived.has.lost ∙ lost));
    })
outcome_so told clock (Ok _) (Err fault) recorded config descriptions pasts wants tables matches past are as_many is_past over run answers = record {
  handed = run.archived.handed;
  account = run.archived.has.account;
  outcome = stopped tables (past ++ run.later) recorded.hall.state fault
      (archived_hall config descriptions wants tables matches (past ++ run.later) recorded.recorder are as_many run.archived)
      (subst (λ p. HearsPast clock tables p (past ++ run.later)) is_past (all run.later run.goes_on))
      (λ lost. answers (run.archived.has.lost ∙ lost));
}
outcome_so told clock (Ok _) (Ok answer) recorded config descriptions pasts wants tables matches past are as_many is_past over run answers = record {
  handed = run.archived.handed;
  account = run.archived.has.account;
  outcome = ended tables run.later recorded.hall.state answer
      (subst (λ p. IsArchivedHall config descriptions wants tables (p ++ run.later) recorded.hall.state run.archived.handed) is_past
      (archived_hall config descriptions wants tables matches (past ++ run.later) recorded.recorder are as_many run.archived))
      (subst (λ p. GoesOnAfter clock tables p run.later) is_past run.goes_on)
      over.over
      (answers.0 tables as_many over)
      (answers.1 ∙ ap status_for run.archived.has.lost);
}
