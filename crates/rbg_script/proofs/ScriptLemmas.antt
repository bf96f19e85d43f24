-- Scripts as lists of lines, and the lines that are not of their form.
use Rattle.rbg_base.proofs.Common.{◌≡◌, ℕ, ◌+◌, ◌⊎◌, inl, inr, Bool, true, false, Result, Ok, Err, IfOk, List, [], ◌∷◌, ◌++◌, length, ap, sym, ◌∙◌, refl, subst, append_assoc, append-nil, arith, IfErr, MatchResult, ◌==◌, AllZip}
use Rattle.rbg_base.proofs.CallerLemmas.{AllZip-push_one}
use Rattle.rbg_script.specs.declared.config.ScriptConfig.{ScriptConfig}
use Rattle.rbg_script.specs.declared.error.ScriptError.{ScriptError}
use Rattle.rbg_script.specs.declared.error.ScriptError.TheVariants.{Line, Memory}
use Rattle.rbg_script.specs.declared.script.Script.{Script}
use Rattle.rbg_script.specs.Config.{SpellsConfig}
use Rattle.rbg_script.specs.Events.{AbstractEvent, SpellsEvent}
use Rattle.rbg_script.specs.Laws.{ScriptsAreApart}
use Rattle.rbg_script.specs.Lines.{HasLines}
use Rattle.rbg_script.specs.Scripts.{AbstractScript, HasMisfit, IsMisfit, IsNoConfig, IsNoEvent, IsReason, SpellsScript, misfit, no_memory, no_line, no_config, no_event, script_of}
use Rattle.rbg_script.specs.internal.Reading.{BeginsWith, IsEventReason, ReadSoFar, SpellsEvents, TakesLine, ended, alone, bad_line, out_of_memory, taken, not_taken}
use Rattle.rbg_script.proofs.Apart.{one_config, one_event, config_some}
use Rattle.rbg_script.proofs.LineLemmas.{no_lines, one_lines, onward, some_lines}

-- Events that lines spell.
same_events : (lines : List (List ℕ)) (a b : List AbstractEvent) → AllZip SpellsEvent lines a → AllZip SpellsEvent lines b → a ≡ b
same_events [] [] [] h k = refl
same_events [] [] (y ∷ b) h k = absurd k
same_events [] (x ∷ a) b h k = absurd h
same_events (line ∷ lines) [] b h k = absurd h
same_events (line ∷ lines) (x ∷ a) [] h k = absurd k
same_events (line ∷ lines) (x ∷ a) (y ∷ b) h k =
    let first = one_event line x y h.0 k.0 in
    let others = same_events lines a b h.1 k.1 in
    λ i. first i ∷ others i

as_many : (lines : List (List ℕ)) (events : List AbstractEvent) → AllZip SpellsEvent lines events → length lines ≡ length events
as_many [] [] h = refl
as_many [] (event ∷ events) h = absurd h
as_many (line ∷ lines) [] h = absurd h
as_many (line ∷ lines) (event ∷ events) h = let more = as_many lines events h.1 in omega (arith, more)

-- a line among lines of events is one
event_there : (before : List (List ℕ)) (line : List ℕ) (after : List (List ℕ)) (events : List AbstractEvent) → AllZip SpellsEvent (before ++ line ∷ after) events → IsNoEvent line → ⊥
event_there [] line after [] h none = h
event_there [] line after (event ∷ events) h none = none event h.0
event_there (first ∷ before) line after [] h none = h
event_there (first ∷ before) line after (event ∷ events) h none = event_there before line after events h.1 none

-- the first line that spells no event is at one place
same_place : (a b : List (List ℕ)) (x y : List ℕ) (c d : List (List ℕ)) (p q : List AbstractEvent) → AllZip SpellsEvent a p → AllZip SpellsEvent b q → IsNoEvent x → IsNoEvent y → a ++ x ∷ c ≡ b ++ y ∷ d → length a ≡ length b
same_place [] [] x y c d p q h k m n same = refl
same_place [] (l ∷ b) x y c d p [] h k m n same = absurd k
same_place [] (l ∷ b) x y c d p (e ∷ q) h k m n same =
    let parts : x ∷ c ≡ l ∷ (b ++ y ∷ d) = same in
    let first : l ≡ x = cc in
    absurd (m e (subst (λ t. SpellsEvent t e) first k.0))
same_place (l ∷ a) [] x y c d [] q h k m n same = absurd h
same_place (l ∷ a) [] x y c d (e ∷ p) q h k m n same =
    let parts : l ∷ (a ++ x ∷ c) ≡ y ∷ d = same in
    let first : l ≡ y = cc in
    absurd (n e (subst (λ t. SpellsEvent t e) first h.0))
same_place (l ∷ a) (r ∷ b) x y c d [] q h k m n same = absurd h
same_place (l ∷ a) (r ∷ b) x y c d (e ∷ p) [] h k m n same = absurd k
same_place (l ∷ a) (r ∷ b) x y c d (e ∷ p) (f ∷ q) h k m n same =
    let parts : l ∷ (a ++ x ∷ c) ≡ r ∷ (b ++ y ∷ d) = same in
    let others = same_place a b x y c d p q h.1 k.1 m n cc in
    omega (arith, others)

nothing_is_cons : {A : Type 0} (x : A) (xs : List A) → [] ≡ x ∷ xs → ⊥
nothing_is_cons x xs same = cc

one_misfit : (xs ys : List (List ℕ)) (m n : ℕ) → IsMisfit xs m → IsMisfit ys n → xs ≡ ys → m ≡ n
one_misfit _ _ _ _ no_line no_line same = refl
one_misfit _ _ _ _ no_line (no_config y b k) same = refl
one_misfit _ _ _ _ no_line (no_event w y b d config q k z n) same = absurd (nothing_is_cons w (b ++ y ∷ d) same)
one_misfit _ _ _ _ (no_config x a h) no_line same = refl
one_misfit _ _ _ _ (no_config x a h) (no_config y b k) same = refl
one_misfit _ _ _ _ (no_config x a h) (no_event w y b d config q k z n) same =
    let parts : x ∷ a ≡ w ∷ (b ++ y ∷ d) = same in
    let first : w ≡ x = cc in
    absurd (h config (subst (λ t. SpellsConfig t config) first k))
one_misfit _ _ _ _ (no_event v x a c config p h z m) no_line same = absurd (nothing_is_cons v (a ++ x ∷ c) (sym same))
one_misfit _ _ _ _ (no_event v x a c config p h z m) (no_config y b k) same =
    let parts : v ∷ (a ++ x ∷ c) ≡ y ∷ b = same in
    let first : v ≡ y = cc in
    absurd (k config (subst (λ t. SpellsConfig t config) first h))
one_misfit _ _ _ _ (no_event v x a c config p h z m) (no_event w y b d other q k u n) same =
    let parts : v ∷ (a ++ x ∷ c) ≡ w ∷ (b ++ y ∷ d) = same in
    let place = same_place a b x y c d p q z u m n cc in
    omega (arith, place)

no_misfit : (lines : List (List ℕ)) (number : ℕ) (first : List ℕ) (others : List (List ℕ)) (config : ScriptConfig) (events : List AbstractEvent) → IsMisfit lines number → lines ≡ first ∷ others → SpellsConfig first config → AllZip SpellsEvent others events → ⊥
no_misfit _ _ first others config events no_line same h k = nothing_is_cons first others same
no_misfit _ _ first others config events (no_config x a none) same h k =
    let parts : x ∷ a ≡ first ∷ others = same in
    let there : first ≡ x = cc in
    none config (subst (λ t. SpellsConfig t config) there h)
no_misfit _ _ first others config events (no_event v x a c other p m z none) same h k =
    let parts : v ∷ (a ++ x ∷ c) ≡ first ∷ others = same in
    let there : others ≡ a ++ x ∷ c = cc in
    event_there a x c events (subst (λ ls. AllZip SpellsEvent ls events) there k) none

either : (text : List ℕ) (number : ℕ) (script : AbstractScript) → HasMisfit text number → SpellsScript text script → ⊥
either text number script h k =
    no_misfit h.lines number k.first k.others script.config script.events h.misfit (one_lines text h.lines (k.first ∷ k.others) h.has k.lines) k.config k.events

one_script : (text : List ℕ) (a b : AbstractScript) → SpellsScript text a → SpellsScript text b → a ≡ b
one_script text a b h k =
    let lines : h.first ∷ h.others ≡ k.first ∷ k.others = one_lines text (h.first ∷ h.others) (k.first ∷ k.others) h.lines k.lines in
    let first : h.first ≡ k.first = cc in
    let others : h.others ≡ k.others = cc in
    let config = one_config k.first a.config b.config (subst (λ t. SpellsConfig t a.config) first h.config) k.config in
    let events = same_events k.others a.events b.events (subst (λ ls. AllZip SpellsEvent ls a.events) others h.events) k.events in
    λ i. record { config = config i; events = events i }

same_misfit : (text : List ℕ) (m n : ℕ) → HasMisfit text m → HasMisfit text n → m ≡ n
same_misfit text m n h k = one_misfit h.lines k.lines m n h.misfit k.misfit (one_lines text h.lines k.lines h.has k.has)

pub scripts_apart : ScriptsAreApart
scripts_apart = record { lines = one_lines; scripts = one_script; misfits = same_misfit; either = either }

-- What the reader of a script answers.
line_or_memory : (text : List ℕ) (error : ScriptError) → IsReason text error → ((number : ℕ) × HasMisfit text number) ⊎ (error ≡ Memory)
line_or_memory text _ (misfit number h) = inl (number, h)
line_or_memory text _ no_memory = inr refl

memory_alone : (text : List ℕ) (script : AbstractScript) (error : ScriptError) → IsReason text error → SpellsScript text script → error ≡ Memory
memory_alone text script error reason spelled =
    elim (line_or_memory text error reason) [
      | inl line ↦ absurd (either text line.0 script line.1 spelled)
      | inr memory ↦ memory
    ]

pub script_only : (text : List ℕ) (answer : Result Script ScriptError) → IfOk answer (λ found. SpellsScript text (script_of found)) → IfErr answer (IsReason text) → (script : AbstractScript) → SpellsScript text script → MatchResult answer (λ found. script_of found ≡ script) (λ error. error ≡ Memory)
script_only text (Ok found) h reason script spelled = one_script text (script_of found) script h spelled
script_only text (Err error) h reason script spelled = memory_alone text script error reason spelled

-- The first line.
nothing_is_more : (line rest : List ℕ) → [] ≡ line ++ 10 ∷ rest → ⊥
nothing_is_more [] rest same = nothing_is_cons 10 rest same
nothing_is_more (byte ∷ line) rest same = nothing_is_cons byte (line ++ 10 ∷ rest) same

empty_line : (text line rest : List ℕ) → BeginsWith text line rest → text ≡ [] → line ≡ []
empty_line text line rest (ended lacks is) empty = absurd (nothing_is_more line rest (sym empty ∙ is))
empty_line text line rest (alone lacks is none) empty = sym is ∙ empty

pub spells_script : (text first rest : List ℕ) (config : ScriptConfig) (events : List AbstractEvent) → BeginsWith text first rest → SpellsConfig first config → SpellsEvents rest events → SpellsScript text (record { config = config; events = events })
spells_script text first rest config events begins h k = record {
  first = first;
  others = k.lines;
  lines = onward text first rest k.lines begins (λ empty. config_some first config h (empty_line text first rest begins empty)) k.has;
  config = h;
  events = k.spelled;
}

pub bad_config : (text first rest : List ℕ) → BeginsWith text first rest → IsNoConfig first → IsReason text (Line 1)
bad_config [] first rest begins none = misfit 1 (record { lines = []; has = no_lines; misfit = no_line })
bad_config (byte ∷ bytes) first rest begins none =
    let more = some_lines rest in
    misfit 1 (record {
      lines = first ∷ more.0;
      has = onward (byte ∷ bytes) first rest more.0 begins (λ empty. nothing_is_cons byte bytes (sym empty)) more.1;
      misfit = no_config first more.0 none;
    })

pub bad_event : (text first rest : List ℕ) (config : ScriptConfig) (error : ScriptError) → BeginsWith text first rest → SpellsConfig first config → IsEventReason rest error → IsReason text error
bad_event text first rest config _ begins h (bad_line line before after events has spelled none) =
    misfit (length before + 2) (record {
      lines = first ∷ (before ++ line ∷ after);
      has = onward text first rest (before ++ line ∷ after) begins (λ empty. config_some first config h (empty_line text first rest begins empty)) has;
      misfit = no_event first line before after config events h spelled none;
    })
bad_event text first rest config _ begins h out_of_memory = no_memory

-- The loop over the lines of events.
pub nothing_read : (text : List ℕ) → ReadSoFar text text []
nothing_read text = record { lines = []; spelled = tt; onward = λ more h. h }

line_taken : (line : List ℕ) (old new : List AbstractEvent) (is_taken : Bool) → TakesLine line old new is_taken → is_taken ≡ true → (event : AbstractEvent) × SpellsEvent line event × (new ≡ old ++ event ∷ [])
line_taken line old new _ (taken event spells is) said = (event, spells, is)
line_taken line old new _ (not_taken none is) said = absurd (let apart : false ≡ true = said in cc)

line_not_taken : (line : List ℕ) (old new : List AbstractEvent) (is_taken : Bool) → TakesLine line old new is_taken → is_taken ≡ false → IsNoEvent line × (new ≡ old)
line_not_taken line old new _ (taken event spells is) said = absurd (let apart : true ≡ false = said in cc)
line_not_taken line old new _ (not_taken none is) said = (none, is)

pub read_more : (text left line rest : List ℕ) (old new : List AbstractEvent) (is_taken : Bool) → ReadSoFar text left old → BeginsWith left line rest → (left ≡ [] → ⊥) → TakesLine line old new is_taken → is_taken ≡ true → ReadSoFar text rest new
read_more text left line rest old new is_taken far begins some takes said =
    let event = line_taken line old new is_taken takes said in
    record {
      lines = far.lines ++ line ∷ [];
      spelled = subst (AllZip SpellsEvent (far.lines ++ line ∷ [])) (sym event.2) (AllZip-push_one SpellsEvent far.lines old line event.0 far.spelled event.1);
      onward = λ more h. subst (HasLines text) (sym (append_assoc far.lines (line ∷ []) more)) (far.onward (line ∷ more) (onward left line rest more begins some h));
    }

pub all_read : (text left : List ℕ) (events : List AbstractEvent) → ReadSoFar text left events → left ≡ [] → SpellsEvents text events
all_read text left events far empty = record {
  lines = far.lines;
  has = subst (HasLines text) (append-nil far.lines) (far.onward [] (subst (λ l. HasLines l []) (sym empty) no_lines));
  spelled = far.spelled;
}

pub stopped : (text left line rest : List ℕ) (old new : List AbstractEvent) (is_taken : Bool) (count : ℕ) → ReadSoFar text left old → BeginsWith left line rest → (left ≡ [] → ⊥) → TakesLine line old new is_taken → is_taken ≡ false → length new ≡ count → IsEventReason text (Line (count + 2))
stopped text left line rest old new is_taken count far begins some takes no_more counted =
    let none = line_not_taken line old new is_taken takes no_more in
    let more = some_lines rest in
    let many : length far.lines ≡ count = as_many far.lines old far.spelled ∙ (ap length (sym none.1) ∙ counted) in
    subst (λ n. IsEventReason text (Line (n + 2))) many
    (bad_line line far.lines more.0 old (far.onward (line ∷ more.0) (onward left line rest more.0 begins some more.1)) far.spelled none.0)

-- Tests for no bytes.
pub not_empty : (rest : List ℕ) (empty : Bool) → empty ≡ (length rest == 0) → empty ≡ false → rest ≡ [] → ⊥
not_empty rest empty is fails none =
    let holds : (length rest == 0) ≡ true = ap (λ (left : List ℕ). length left == 0) none in
    let apart : true ≡ false = sym holds ∙ (sym is ∙ fails) in
    cc
