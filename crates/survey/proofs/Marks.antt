-- A list of corners of whose edges the first n are settled, seen by the rules.
use Rattle.std.proofs.Common.{◌≡◌, ℕ, zero, suc, ◌+◌, ◌<◌, ◌≤◌, Bool, true, false, eqb, List, [], ◌∷◌, map, length, get_or, sym, refl, ap, ◌∙◌, add-one, arith}
use Rattle.std.specs.List.{insert}
use Rattle.std.proofs.lemmas.Bool.{ltb-true, cond_both, ne_eqb}
use Rattle.std.proofs.lemmas.Bool.Decides.{nat_tests}
use Rattle.plane.specs.declared.point.Point.{Point}
use Rattle.plane.specs.Plane.{next, west, normal}
use Rattle.calls.specs.declared.Corner.{Corner}
use Rattle.survey.specs.Rules.{Found, closed_list, all_settled, first_open, nothing, question, edge_start, edge_end, settle}
use Rattle.survey.specs.State.{mark, found_by, marked}

pub length_marked : (n : ℕ) (cs : List Corner) → length (marked n cs) ≡ length cs
length_marked n [] = refl
length_marked zero (c ∷ cs) = ap suc (length_marked zero cs)
length_marked (suc n) (c ∷ cs) = ap suc (length_marked n cs)

-- what f reads of a found corner, whatever its mark, g reads of the corner
module _ (f : Found → Point) (g : Corner → Point) (e : (b : Bool) (c : Corner) → f (mark b c) ≡ g c) where
  field_marked : (n : ℕ) (cs : List Corner) (i : ℕ) (d : Corner) → i < length cs → f (get_or (marked n cs) i nothing) ≡ g (get_or cs i d)
  field_marked n [] i d h = absurd (omega arith)
  field_marked zero (c ∷ cs) zero d h = e _ c
  field_marked (suc n) (c ∷ cs) zero d h = e _ c
  field_marked zero (c ∷ cs) (suc i) d h = field_marked zero cs i d (omega arith)
  field_marked (suc n) (c ∷ cs) (suc i) d h = field_marked n cs i d (omega arith)

pub corner_marked : (n : ℕ) (cs : List Corner) (i : ℕ) (d : Corner) → i < length cs → edge_start (marked n cs) i ≡ (get_or cs i d).at
corner_marked = field_marked (λ f. f.corner) (λ c. c.at) (λ b c. refl)

pub asked_marked : (n : ℕ) (cs : List Corner) (i : ℕ) (d : Corner) → i < length cs → (get_or (marked n cs) i nothing).asked ≡ found_by (get_or cs i d)
asked_marked = field_marked (λ f. f.asked) found_by (λ b c. refl)

-- what a reading needs
pub ruleset reads = (length_marked, corner_marked, asked_marked)

pub corners_marked : (n : ℕ) (cs : List Corner) → map (λ (f : Found). f.corner) (marked n cs) ≡ map (λ (c : Corner). c.at) cs
corners_marked n [] = refl
corners_marked zero (c ∷ cs) = ap (λ (ps : List Point). c.at ∷ ps) (corners_marked zero cs)
corners_marked (suc n) (c ∷ cs) = ap (λ (ps : List Point). c.at ∷ ps) (corners_marked n cs)

-- ---- open and settled edges

next_below : (n i : ℕ) → 0 < n → next n i < n
next_below n i h = cond_both _ (i + 1) 0 (λ k. k < n) (ltb-true (i + 1) n) (λ e. h)

pub edge_end_marked : (n : ℕ) (cs : List Corner) (d : Corner) → 0 < length cs → edge_end (marked n cs) n ≡ (get_or cs (next (length cs) n) d).at
edge_end_marked n cs d h = ap (λ k. edge_start (marked n cs) (next k n)) (length_marked n cs) ∙ corner_marked n cs (next (length cs) n) d (next_below (length cs) n h)

pub first_open_marked : (n : ℕ) (cs : List Corner) → n ≤ length cs → first_open (marked n cs) ≡ n
first_open_marked zero [] h = refl
first_open_marked (suc n) [] h = absurd (omega arith)
first_open_marked zero (c ∷ cs) h = refl
first_open_marked (suc n) (c ∷ cs) h = ap suc (first_open_marked n cs (omega arith))

settled_marked : (n : ℕ) (cs : List Corner) → n ≤ length cs → all_settled (marked n cs) ≡ eqb n (length cs)
settled_marked zero [] h = refl
settled_marked (suc n) [] h = absurd (omega arith)
settled_marked zero (c ∷ cs) h = sym (ne_eqb 0 (suc (length cs)) (λ e. omega arith))
settled_marked (suc n) (c ∷ cs) h = settled_marked n cs (omega arith) ∙ grind (arith, nat_tests)

-- closed: there is a corner, and as many edges are settled as there are corners
pub closed_marked : (n : ℕ) (cs : List Corner) → n ≤ length cs → 0 < length cs → closed_list (marked n cs) ≡ eqb n (length cs)
closed_marked n [] h some = absurd (omega arith)
closed_marked zero (c ∷ cs) h some = settled_marked zero (c ∷ cs) h
closed_marked (suc n) (c ∷ cs) h some = settled_marked (suc n) (c ∷ cs) h

pub settle_marked : (n : ℕ) (cs : List Corner) → n < length cs → marked (n + 1) cs ≡ settle (marked n cs) n
settle_marked n cs h = ap (λ (m : ℕ). marked m cs) (add-one n) ∙ go n cs h
  where
    go : (n : ℕ) (cs : List Corner) → n < length cs → marked (suc n) cs ≡ settle (marked n cs) n
    go n [] h = absurd (omega arith)
    go zero (c ∷ cs) h = refl
    go (suc n) (c ∷ cs) h = ap (λ (fs : List Found). mark true c ∷ fs) (go n cs (omega arith))

-- a corner taken in after the settled edges, with an open edge
pub inserted_marked : (n : ℕ) (cs : List Corner) (i : ℕ) (c : Corner) → n ≤ i → i ≤ length cs → marked n (insert cs i c) ≡ insert (marked n cs) i (mark false c)
inserted_marked zero [] zero c h k = refl
inserted_marked (suc n) [] zero c h k = absurd (omega arith)
inserted_marked n [] (suc i) c h k = absurd (omega arith)
inserted_marked zero (d ∷ cs) zero c h k = refl
inserted_marked (suc n) (d ∷ cs) zero c h k = absurd (omega arith)
inserted_marked zero (d ∷ cs) (suc i) c h k = ap (λ (fs : List Found). mark false d ∷ fs) (inserted_marked zero cs i c (omega arith) (omega arith))
inserted_marked (suc n) (d ∷ cs) (suc i) c h k = ap (λ (fs : List Found). mark true d ∷ fs) (inserted_marked n cs i c (omega arith) (omega arith))

-- ---- what a probe asks

pub question_single : (n : ℕ) (cs : List Corner) → length cs ≡ 1 → question (marked n cs) ≡ west
question_single n [] h = absurd (omega arith)
question_single zero (c ∷ []) h = refl
question_single (suc n) (c ∷ []) h = refl
question_single n (c ∷ d ∷ cs) h = absurd (omega arith)

question_edge : (fs : List Found) → 1 < length fs → question fs ≡ normal (edge_start fs (first_open fs)) (edge_end fs (first_open fs))
question_edge [] h = absurd (omega arith)
question_edge (c ∷ []) h = absurd (omega arith)
question_edge (c ∷ d ∷ fs) h = refl

pub question_outward : (n : ℕ) (cs : List Corner) (d : Corner) → 1 < length cs → n < length cs → question (marked n cs) ≡ normal (get_or cs n d).at (edge_end (marked n cs) n)
question_outward n cs d h l =
    question_edge (marked n cs) (omega (arith, length_marked n cs))
    ∙ ap (λ (i : ℕ). normal (edge_start (marked n cs) i) (edge_end (marked n cs) i)) (first_open_marked n cs (omega arith))
    ∙ ap (λ (p : Point). normal p (edge_end (marked n cs) n)) (corner_marked n cs n d l)
