-- If the sections have a fault, they spell no description.
use Rattle.std.proofs.Common.{◌≡◌, ◌≤◌, List, [], ◌∷◌, length, Result, Ok, Err, refl, sym, ap, ◌∙◌, arith, inl, inr, IsErrAnd, IfErr}
use Rattle.rbg_macro.specs.Token.{Lexeme}
use Rattle.rbg_macro.specs.Sections.{SectionTokens}
use Rattle.rbg_macro.specs.declared.source.SectionKind.{SectionKind}
use Rattle.rbg_macro.specs.declared.source.SectionKind.TheVariants.{Players, Pieces, Variables, Board, Rules}
use Rattle.rbg_grammar.specs.declared.description.Description.{Description}
use Rattle.rbg_syntax.specs.declared.error.SyntaxError.{SyntaxError}
use Rattle.rbg_syntax.specs.declared.error.SyntaxError.TheVariants as errors
use Rattle.rbg_grammar.proofs.Common.{AreVariables, sections_of, count_of, HasSection, IsSection, MayHaveVariables, Spells, IsSpelt, SpeltBounded, SpeltDescription}
use Rattle.rbg_syntax.specs.Faults.{HasFault, IsAnswer}
use Rattle.rbg_grammar.proofs.OneDescription.{spelt_here}
use Rattle.rbg_syntax.proofs.SectionLists.{twice_counted}
use Rattle.rbg_grammar.proofs.Depths.{too_deep_spells_nothing}

is_one : {sections : List SectionTokens} {kind : SectionKind} {A : Type 0} {P : List Lexeme → A → List Lexeme → Type 0} {x : A} → IsSection sections kind P x → count_of kind sections ≡ 1
is_one s = ap length s.has.only

one_variables_section : {sections : List SectionTokens} {vs : List SpeltBounded} → MayHaveVariables sections vs → count_of Variables sections ≤ 1
one_variables_section (inl none) = omega (arith, ap length none.0)
one_variables_section (inr s) = omega (arith, is_one s)

one_section : (sections : List SectionTokens) (d : SpeltDescription) → Spells sections d → (kind : SectionKind) → count_of kind sections ≤ 1
one_section sections d s Players = omega (arith, is_one s.players)
one_section sections d s Pieces = omega (arith, is_one s.pieces)
one_section sections d s Variables = one_variables_section s.variables
one_section sections d s Board = omega (arith, is_one s.board)
one_section sections d s Rules = omega (arith, is_one s.rules)

-- a section that isn't that of the variables isn't missing
not_missing : (sections : List SectionTokens) (d : SpeltDescription) → Spells sections d → (kind : SectionKind) → (kind ≡ Variables → ⊥) → sections_of kind sections ≡ [] → ⊥
not_missing sections d s Players other none = omega (arith, ap length none, is_one s.players)
not_missing sections d s Pieces other none = omega (arith, ap length none, is_one s.pieces)
not_missing sections d s Variables other none = other refl
not_missing sections d s Board other none = omega (arith, ap length none, is_one s.board)
not_missing sections d s Rules other none = omega (arith, ap length none, is_one s.rules)

-- what the tokens of a section spell
variables_spelt : {sections : List SectionTokens} {vs : List SpeltBounded} {ts : List Lexeme} → HasSection sections Variables ts → MayHaveVariables sections vs → AreVariables ts vs []
variables_spelt has (inl none) = let wrong : [] ≡ has.section ∷ [] = sym none.0 ∙ has.only in cc
variables_spelt has (inr s) = spelt_here has s

spelt_kind : (sections : List SectionTokens) (d : SpeltDescription) → Spells sections d → (kind : SectionKind) (ts : List Lexeme) → HasSection sections kind ts → IsSpelt kind ts
spelt_kind sections d s Players ts has = (d.players, spelt_here has s.players)
spelt_kind sections d s Pieces ts has = (d.pieces, spelt_here has s.pieces)
spelt_kind sections d s Variables ts has = (d.variables, variables_spelt has s.variables)
spelt_kind sections d s Board ts has = (d.board, spelt_here has s.board)
spelt_kind sections d s Rules ts has = (128, (d.rules, spelt_here has s.rules))

pub fault : (sections : List SectionTokens) (d : SpeltDescription) (e : SyntaxError) → Spells sections d → HasFault sections e → e ≡ errors.Memory
fault sections d (errors.Expected at what) s h = absurd (h.spells_nothing (spelt_kind sections d s h.kind h.ts h.has))
fault sections d (errors.MissingSection which) s h = absurd (not_missing sections d s which h.1 h.0)
fault sections d (errors.SectionTwice which) s h = absurd (omega (arith, twice_counted sections which h, one_section sections d s which))
fault sections d (errors.TooDeep at) s h = absurd (too_deep_spells_nothing h.ts at d.rules h.deep (spelt_here h.has s.rules))
fault sections d errors.Memory s h = refl

-- if there is a description, the only error that can be returned is out of memory
answer_err : (d : SpeltDescription) (r : Result Description SyntaxError) (e : SyntaxError) → IsErrAnd r (λ f. f ≡ e) → e ≡ errors.Memory → IsAnswer d r
answer_err d (Ok x) e is h = absurd is
answer_err d (Err f) e is h = is ∙ h

pub fault_only : (sections : List SectionTokens) (r : Result Description SyntaxError) (e : SyntaxError) → IsErrAnd r (λ f. f ≡ e) → HasFault sections e → (d : SpeltDescription) → Spells sections d → IsAnswer d r
fault_only sections r e is h d s = answer_err d r e is (fault sections d e s h)

pub fault_err : {A : Type 0} (sections : List SectionTokens) (r : Result A SyntaxError) (e : SyntaxError) → IsErrAnd r (λ f. f ≡ e) → HasFault sections e → IfErr r (HasFault sections)
fault_err sections (Ok x) e is h = absurd is
fault_err sections (Err f) e is h = rw is h
