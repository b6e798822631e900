-- A run, from its probes so far to its end.
use Rattle.std.proofs.Common.{◌≡◌, ℕ, suc, ◌+◌, ◌-◌, ◌<◌, ◌⊎◌, Ok, Err, Result, sym, ap, subst, ◌∙◌, inl, inr, arith}
use Rattle.plane.specs.declared.fault.Fault.{Fault}
use Rattle.body.specs.Meaning.{Meaning}
use Rattle.calls.specs.declared.Said.{Said}
use Rattle.calls.specs.declared.Said.TheVariants.{Corner, Settled, Closed}
use Rattle.calls.specs.declared.Ended.{Ended}
use Rattle.calls.specs.declared.Ended.TheVariants as ended
use Rattle.survey.specs.Rules.{State, Run, probe, ends, one_more, follow, run}
use Rattle.survey.proofs.Stillness.{Still, still}

-- a run that k counted probes came before
abbrev pub after : ℕ → Run → Run
after k r = record { tells = record { made = k + r.tells.made; ended = r.tells.ended }; leaves = r.leaves }

-- a run that ended after k counted probes
abbrev pub ended_after : ℕ → State → Ended → Run
ended_after k s e = record { tells = record { made = k; ended = e }; leaves = s }

after_one : (k : ℕ) (rest : Run) → after k (one_more rest) ≡ after (k + 1) rest
after_one k rest = ap (λ (n : ℕ). record { tells = record { made = n; ended = rest.tells.ended }; leaves = rest.leaves }) (omega arith)

after_ends : (k : ℕ) (s t : State) (e : Ended) → t ≡ s → ended_after k t e ≡ after k (ends s e)
after_ends k s t e q = ap (λ (x : State). ended_after k x e) q ∙ ap (λ (n : ℕ). ended_after n s e) (omega arith)

-- k probes of the run `all` with budget b came before one that leaves t
module _ (m : Meaning) (b k : ℕ) (t : State) (all : Run) where
  -- where that one said r, the run goes on or is at its end
  abbrev pub OneTurn : Result Said Fault → Type 0
  OneTurn (Ok Corner) = all ≡ after (k + 1) (run m (b - (k + 1)) t)
  OneTurn (Ok Settled) = all ≡ after (k + 1) (run m (b - (k + 1)) t)
  OneTurn (Ok Closed) = ended_after k t ended.Closed ≡ all
  OneTurn (Err f) = ended_after k t (ended.Refused f) ≡ all

  -- the probe is one on s
  pub one_turn : (s : State) (n : Meaning) (r : Result Said Fault) → n ≡ m → r ≡ (probe n s).says → t ≡ (probe n s).leaves → k < b → all ≡ after k (run m (b - k) s) → OneTurn r
  one_turn s n r same e l h inv = go r (still n s r t e l) (inv ∙ ap (after k) step)
    where
      rest : Run
      rest = run m (b - (k + 1)) t

      step : run m (b - k) s ≡ follow r s rest
      step =
          let more : b - k ≡ suc (b - (k + 1)) = omega arith in
          let says = e ∙ ap (λ (x : Meaning). (probe x s).says) same in
          let leaves = l ∙ ap (λ (x : Meaning). (probe x s).leaves) same in
          ap (λ (j : ℕ). run m j s) more ∙ (λ i. follow (sym says i) s (run m (b - (k + 1)) (sym leaves i)))

      go : (r : Result Said Fault) → Still s r t → all ≡ after k (follow r s rest) → OneTurn r
      go (Ok Corner) q w = w ∙ after_one k rest
      go (Ok Settled) q w = w ∙ after_one k rest
      go (Ok Closed) q w = after_ends k s t ended.Closed q ∙ sym w
      go (Err f) q w = after_ends k s t (ended.Refused f) q ∙ sym w

  -- a probe that found a corner or settled an edge is counted
  pub counted : (a : Said) → (a ≡ Corner) ⊎ (a ≡ Settled) → OneTurn (Ok a) → all ≡ after (k + 1) (run m (b - (k + 1)) t)
  counted a (inl e) w = subst (λ (x : Said). OneTurn (Ok x)) e w
  counted a (inr e) w = subst (λ (x : Said). OneTurn (Ok x)) e w
