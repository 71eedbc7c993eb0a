-- The cycle that a clash leaves. Assumes nothing.
use Rattle.std.proofs.Common.{◌≡◌, ℕ, zero, suc, ◌-◌, ◌<◌, ◌≤◌, Bool, true, List, [], ◌∷◌, ◌++◌, sym, refl, ap, ◌∙◌, subst, ⊎_elim, arith}
use Rattle.measure.specs.Group.{OrderedGroup}
use Rattle.graph.specs.Graph.{Weight, In, Different, Edge, Walk, Cycle, Fits}
use Rattle.graph.specs.Tree.{climb, way}
use Rattle.graph.proofs.Regrow.{Born, Grown, Clash}
use Rattle.graph.proofs.Regrow.Born.{same, first, later}
use Rattle.graph.proofs.Sums.{le_of_eq, stands_on, cycle_negative}
use Rattle.graph.proofs.Lists.{in_append, in_one, different_push, different_append}
use Rattle.graph.proofs.Walks.{walk_append, walk_push}
use Rattle.graph.proofs.Trees.{Height, height_of, on_way, way_different}
use Rattle.graph.proofs.Relabels.{lowered_walk, tree_way, climb_inside}

-- a list with one marker more, read as a cycle
to_cycle : (g : OrderedGroup) (n : ℕ) (w : Weight g) (x : ℕ) (ms ns : List ℕ) (z : ℕ) (s : g.carrier)
    → Different (x ∷ (ms ++ (z ∷ ns))) → Walk g n w x ((ms ++ (z ∷ ns)) ++ (x ∷ [])) x s → Cycle g n w (x ∷ (ms ++ (z ∷ ns))) s
to_cycle g n w x [] ns z s d walk = (d, walk)
to_cycle g n w x (m ∷ ms) ns z s d walk = (d, walk)

module _ (g : OrderedGroup) (n : ℕ) (w : Weight g) (a b : ℕ) (c : g.carrier) (d : ℕ → g.carrier) (p : ℕ → ℕ)
    (t : ℕ) (X : ℕ → Bool) (L : ℕ → g.carrier) (q turn : ℕ → ℕ) (fits : Fits g n w d) (grown : Grown g n w a b c d p t X L q turn) where
  -- the way from b to y by the new parents
  record Line (y : ℕ) : Type 0 where
    k : ℕ
    s : g.carrier
    start : climb q k y ≡ b
    walk : Walk g n w b (way q k y) y s
    sum : L y ≡ g.plus (g.plus (d a) c) s
    different : Different (b ∷ way q k y)
    fallen : (x : ℕ) → In x (b ∷ way q k y) → ¬ g.le (d x) (L x)
    turns : (x : ℕ) → In x (b ∷ way q k y) → turn x ≤ turn y

  alone : (y : ℕ) → y ≡ b → L y ≡ g.plus (d a) c → ¬ g.le (d y) (L y) → Line y
  alone y e l f = record {
    k = 0;
    s = g.neutral;
    start = e;
    walk = (sym e, refl);
    sum = l ∙ sym (g.plus_neutral (g.plus (d a) c));
    different = (λ i. i, tt);
    fallen = λ x i. subst (λ u. ¬ g.le (d u) (L u)) (e ∙ sym (in_one x b i)) f;
    turns = λ x i. subst (λ u. turn u ≤ turn y) (e ∙ sym (in_one x b i)) (omega arith);
  }

  extended : (y : ℕ) (v : g.carrier) → turn (q y) < turn y → Edge g n w (q y) y v → L y ≡ g.plus (L (q y)) v → ¬ g.le (d y) (L y) → Line (q y) → Line y
  extended y v less edge l f line = record {
    k = suc line.k;
    s = g.plus line.s v;
    start = line.start;
    walk = walk_push g n w b (way q line.k (q y)) (q y) line.s y v line.walk edge;
    sum = l ∙ ap (λ x. g.plus x v) line.sum ∙ g.assoc (g.plus (d a) c) line.s v;
    different = different_push (b ∷ way q line.k (q y)) y line.different new;
    fallen = λ x i. ⊎_elim (line.fallen x) (λ o. subst (λ u. ¬ g.le (d u) (L u)) (sym (in_one x y o)) f) (in_append x (b ∷ way q line.k (q y)) (y ∷ []) i);
    turns = λ x i. ⊎_elim (λ o. weaker x (line.turns x o)) (λ o. subst (λ u. turn u ≤ turn y) (sym (in_one x y o)) (omega arith)) (in_append x (b ∷ way q line.k (q y)) (y ∷ []) i);
  }
    where
      weaker : (x : ℕ) → turn x ≤ turn (q y) → turn x ≤ turn y
      weaker x h = omega arith

      new : In y (b ∷ way q line.k (q y)) → ⊥
      new i = let h : turn y ≤ turn (q y) = line.turns y i in omega arith

  line_of : (m y : ℕ) → y < n → X y ≡ true → turn y < m → ¬ g.le (d y) (L y) → Line y
  line_of zero y h x l f = absurd (omega arith)
  line_of (suc m) y h x l f = at (λ (u : ℕ) (hu : u < n) (xu : X u ≡ true) (k : turn u < m) (fu : ¬ g.le (d u) (L u)). line_of m u hu xu k fu) (grown.born y h)
    where
      at : ((u : ℕ) → u < n → X u ≡ true → turn u < m → ¬ g.le (d u) (L u) → Line u) → Born g n w a b c d p X L q turn y → Line y
      at ih (same e k) = absurd (f (le_of_eq g (sym k)))
      at ih (first e k o f') = alone y e o f
      at ih (later v xq k edge o f') =
          let less : turn (q y) < turn y = k x in
          extended y v less edge o f
          (ih (q y) edge.0 xq (omega arith) (λ s. f (stands_on g (L y) (L (q y)) (d y) (d (q y)) v o s (fits.keeps (q y) y v edge))))

pub clash : (g : OrderedGroup) → Clash g
clash g n w w' a b c d p t X L q turn y v j low ha hb fits tree tight grown x fell edge below up stands = (
  line.k,
  g.plus now.0 c,
  line.start,
  to_cycle g n w' b (way q line.k y) (way p j a) z (g.plus now.0 c) apart (walk_push g n w' b list a now.0 b c now.1 (ha, hb, low.at)),
  λ o. below (cycle_negative g (L y) (d a) (d z) c line.s down.0 v now.0 line.sum down.2 now.2 o),
)
  where
    z : ℕ
    z = climb p j a

    line : Line g n w a b c d p t X L q turn fits grown y
    line = line_of g n w a b c d p t X L q turn fits grown (suc (turn y)) y edge.0 x (omega arith) fell

    list : List ℕ
    list = way q line.k y ++ (z ∷ way p j a)

    down : (t : g.carrier) × Walk g n w z (way p j a) a t × (d a ≡ g.plus (d z) t)
    down = tree_way g n w d p tree.inside tight j a ha up

    now : (s : g.carrier) × Walk g n w' b list a s × g.le s (g.plus line.s (g.plus v down.0))
    now =
        lowered_walk g n w w' a b c low b list a (g.plus line.s (g.plus v down.0))
        (walk_append g n w b (way q line.k y) y line.s (z ∷ way p j a) a (g.plus v down.0) line.walk (v, down.0, edge, down.1, refl))

    heights : (i : ℕ) → i < j → (0 < climb p i a) × ((h : ℕ) × Height p h (climb p i a))
    heights i h =
        let m = climb_inside n p tree.inside i a ha in
        let o = height_of p (n - 1) (climb p i a) (tree.climbs (climb p i a) m) in
        (up i h, (o.0, o.2))

    apart : Different (b ∷ list)
    apart =
        different_append (b ∷ way q line.k y) (z ∷ way p j a) line.different (way_different p tree.root j a heights)
        (λ u i k. let o = on_way p j a u k in line.fallen u i (subst (λ m. g.le (d m) (L m)) (sym o.2) (stands o.0 o.1)))
