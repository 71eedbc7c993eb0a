-- What stands at some moment: the ties, the bounds that they give, and the depths that fit those. Assumes nothing.
use Rattle.std.specs.Prelude.{◌≡◌, ℕ, ◌+◌, ◌-◌, Bool, cond, ◌&&◌, Some, None, Option, ◌==◌}
use Rattle.measure.specs.declared.Amount.{Amount}
use Rattle.measure.specs.declared.Measure as measure
use Rattle.measure.specs.Group.{OrderedGroup}
use Rattle.measure.specs.Least.{least}
use Rattle.graph.specs.Graph.{Weight, Fits}
use Rattle.graph.specs.Weights.{valued}
use Rattle.law.specs.declared.call.State.{State}
use Rattle.law.specs.declared.call.State.TheVariants as state
use Rattle.law.specs.declared.call.Call.{Call}
use Rattle.law.specs.declared.call.Call.TheVariants as call

-- the amount of each ordered pair that is tied
abbrev pub Ties : Type 0
Ties = ℕ → ℕ → Option Amount

pub record Standing : Type 0 where
  -- how many markers there are, and which are closed
  pub count : ℕ
  pub closed : ℕ → Bool
  -- the deepest that any marker may lie
  pub total : Amount
  -- the solver's own number, which its tokens bear
  pub number : ℕ
  pub ties : Ties
  -- how many further ties the store is free to take
  pub free : ℕ
  pub state : State

-- the pair a, b has the amount o, or none
abbrev pub with_tie : Ties → ℕ → ℕ → Option Amount → Ties
with_tie t a b o x y = cond (x == a && y == b) o (t x y)

-- how many of the store's places an amount takes
abbrev pub places : Option Amount → ℕ
places None = 0
places (Some _) = 1

abbrev pub put : Standing → ℕ → ℕ → Option Amount → State → Standing
put s a b o st = record {
  count = s.count;
  closed = s.closed;
  total = s.total;
  number = s.number;
  ties = with_tie s.ties a b o;
  free = s.free + places (s.ties a b) - places o;
  state = st;
}

abbrev pub turned : Standing → State → Standing
turned s st = record {
  count = s.count;
  closed = s.closed;
  total = s.total;
  number = s.number;
  ties = s.ties;
  free = s.free;
  state = st;
}

-- the pair that was tried gets what it had just before the trial
abbrev pub rolled_back : Standing → State → Standing
rolled_back s state.New = s
rolled_back s state.Open = s
rolled_back s (state.OnTrial a b before) = put s a b before state.Open

-- what an accepted call makes of it
abbrev pub took : Call → Standing → Standing
took (call.Open room) s = turned s state.Open
took (call.Tie a b w room) s = put s a b (Some w) s.state
took (call.Untie a b) s = put s a b None s.state
took (call.Trial a b w room) s = put s a b (Some w) (state.OnTrial a b (s.ties a b))
took (call.Commit number) s = turned s state.Open
took (call.RollBack number) s = rolled_back s s.state
took (call.Depth m) s = s
took (call.Path m room) s = s

module _ {M : Type 0} (μ : measure.Ghosts M) where
  -- the tie, but no more than the cap
  abbrev pub capped : Amount → Option Amount → Amount
  capped cap None = cap
  capped cap (Some w) = least μ w cap

  -- the bound from x to y, where this is the pair's tie: to the datum at most zero, from the datum at most the total depth
  abbrev pub bound_at : Amount → ℕ → ℕ → Option Amount → Option Amount
  bound_at total x y tie =
      cond (x == y) None
      (cond (y == 0) (Some (capped μ.zero tie))
      (cond (x == 0) (Some (capped total tie))
      tie))

  abbrev pub bound_of : Amount → Ties → ℕ → ℕ → Option Amount
  bound_of total t x y = bound_at total x y (t x y)

  -- the bounds as weights of a graph
  abbrev pub bounds_of : Amount → Ties → Weight μ.group
  bounds_of total t x y = valued μ.value (bound_of total t x y)

  abbrev pub bound : Standing → ℕ → ℕ → Option Amount
  bound s = bound_of s.total s.ties

  abbrev pub bounds : Standing → Weight μ.group
  bounds s = bounds_of s.total s.ties

module _ (g : OrderedGroup) (n : ℕ) (w : Weight g) where
  abbrev pub NothingFits : Type 0
  NothingFits = (d : ℕ → g.carrier) → ¬ Fits g n w d

  -- x is the depth of m in some set of depths that fits, and no set that fits puts m deeper
  pub record Deepest (m : ℕ) (x : g.carrier) : Type 0 where
    pub depths : ℕ → g.carrier
    pub fit : Fits g n w depths
    pub there : depths m ≡ x
    pub most : (d : ℕ → g.carrier) → Fits g n w d → g.le (d m) x
