-- A probe that finds no corner and settles no edge changes nothing.
use Rattle.std.proofs.Common.{◌≡◌, ℕ, ◌+◌, ltb, List, [], ◌∷◌, length, IfErr, Ok, Err, Result, sym, refl, subst}
use Rattle.std.proofs.lemmas.Bool.{cond_both}
use Rattle.plane.specs.declared.fault.Fault.{Fault}
use Rattle.plane.specs.declared.point.Point.{Point}
use Rattle.plane.specs.Directed.{directed}
use Rattle.plane.specs.Plane.{same}
use Rattle.body.specs.Meaning.{Meaning, answer}
use Rattle.calls.specs.declared.Said.{Said}
use Rattle.calls.specs.declared.Said.TheVariants.{Corner, Settled, Closed}
use Rattle.survey.specs.Rules.{State, Found, Probed, closed, question, first_open, edge_end, take_in, about_edge, by_point, by_answer, probe}

-- a probe of s that said r left t
abbrev pub Still : State → Result Said Fault → State → Type 0
Still s (Ok Corner) t = Unit {0}
Still s (Ok Settled) t = Unit {0}
Still s (Ok Closed) t = t ≡ s
Still s (Err f) t = t ≡ s

abbrev StillBy : State → Probed → Type 0
StillBy s p = Still s p.says p.leaves

still_taken : (s : State) (i : ℕ) (u p : Point) → StillBy s (take_in s i u p)
still_taken s i u p = cond_both (ltb (length s.found) 256) _ _ (StillBy s) (λ e. tt) (λ e. refl)

still_about : (s : State) (i : ℕ) (u p : Point) → StillBy s (about_edge s i u p)
still_about s i u p = cond_both (same p (edge_end s.found i)) _ _ (StillBy s) (λ e. tt) (λ e. still_taken s (i + 1) u p)

still_answered : (s : State) (u : Point) (r : Result Point Fault) → StillBy s (by_answer s u r)
still_answered s u (Err f) = refl
still_answered s u (Ok p) = go s.found
  where
    go : (fs : List Found) → StillBy s (by_point s u p fs)
    go [] = still_taken s 0 u p
    go (c ∷ fs) = still_about s (first_open (c ∷ fs)) u p

still_probed : (m : Meaning) (s : State) → StillBy s (probe m s)
still_probed m s =
    cond_both (closed s) _ _ (StillBy s) (λ e. refl)
    (λ e. cond_both (directed (question s.found)) _ _ (StillBy s) (λ k. still_answered s (question s.found) (answer m (question s.found))) (λ k. refl))

pub still : (m : Meaning) (s : State) (r : Result Said Fault) (t : State) → r ≡ (probe m s).says → t ≡ (probe m s).leaves → Still s r t
still m s r t e l =
    subst (λ (x : State). Still s r x) (sym l)
    (subst (λ (x : Result Said Fault). Still s x (probe m s).leaves) (sym e) (still_probed m s))

-- a refused probe leaves the survey as it was
pub refused_leaves : (m : Meaning) (s t : State) (r : Result Said Fault) → r ≡ (probe m s).says → t ≡ (probe m s).leaves → IfErr r (λ _. t ≡ s)
refused_leaves m s t (Ok a) e l = tt
refused_leaves m s t (Err f) e l = still m s (Err f) t e l
