-- The plan for the links of ports, from the last port to the first.
use Rattle.std.proofs.Common.{◌≡◌, ℕ, ◌+◌, List, [], ◌∷◌, ◌++◌, length, map, take, reverse, refl, ap}
use Rattle.std.proofs.Common.{sym, ◌∙◌, append_assoc}
use Rattle.std.proofs.Math.Seq.{take-append_seam}
use Rattle.std.proofs.lemmas.List.{reverse-append, reverse-reverse, length-reverse, map-append}
use Rattle.ev_edge.specs.declared.config.PortConfig.{PortConfig}
use Rattle.ev_peers.specs.declared.edge_links.Link.{Link}
use Rattle.ev_peers.specs.declared.plan.Task.{Task}
use Rattle.ev_peers.specs.declared.plan.Task.TheVariants.{Port}
use Rattle.ev_peers.specs.Inner.Plan.{vni_at, port_tasks, outputs_back, outputs_of}

-- the images, the last first
map_reverse : {A B : Type 0} (f : A → B) (xs : List A) → map f (reverse xs) ≡ reverse (map f xs)
map_reverse f [] = refl
map_reverse f (x ∷ xs) =
    ap (map f) (reverse-append (x ∷ []) xs)
    ∙ (map-append f (reverse xs) (x ∷ [])
    ∙ (ap (λ l. l ++ f x ∷ []) (map_reverse f xs) ∙ sym (reverse-append (f x ∷ []) (map f xs))))

-- a list's own length takes the whole list
pub take_all : {A : Type 0} (n : ℕ) (xs ys : List A) → length xs ≡ n → take n (xs ++ ys) ≡ xs
take_all n xs ys is = ap (λ k. take k (xs ++ ys)) (sym is) ∙ take-append_seam xs ys

module _ {I O : Type 0} where
  -- the last link's task comes first
  last_task : (ports : List PortConfig) (before : List (Link I O)) (link : Link I O)
      → port_tasks ports (reverse (before ++ link ∷ []))
      ≡ Port (length before + 1) (vni_at ports (length before)) link.input ∷ port_tasks ports (reverse before)
  last_task ports before link =
      ap (port_tasks ports) (reverse-append before (link ∷ []))
      ∙ ap (λ n. Port (n + 1) (vni_at ports n) link.input ∷ port_tasks ports (reverse before)) (length-reverse before)

  pub one_task : (ports : List PortConfig) (before all : List (Link I O)) (link : Link I O)
      (tasks tasks' start : List (Task I))
      → all ≡ before ++ link ∷ []
      → tasks' ≡ tasks ++ Port (length before + 1) (vni_at ports (length before)) link.input ∷ []
      → tasks ++ port_tasks ports (reverse all) ≡ start
      → tasks' ++ port_tasks ports (reverse before) ≡ start
  one_task ports before all link tasks tasks' start popped pushed so_far =
      let task = Port (length before + 1) (vni_at ports (length before)) link.input in
      let last = ap (λ l. port_tasks ports (reverse l)) popped ∙ last_task ports before link in
      ap (λ l. l ++ port_tasks ports (reverse before)) pushed
      ∙ (append_assoc tasks (task ∷ []) (port_tasks ports (reverse before))
      ∙ (ap (λ l. tasks ++ l) (sym last) ∙ so_far))

  pub one_output : (before all : List (Link I O)) (link : Link I O) (outputs outputs' start : List O)
      → all ≡ before ++ link ∷ []
      → outputs' ≡ outputs ++ link.output ∷ []
      → outputs ++ outputs_back all ≡ start
      → outputs' ++ outputs_back before ≡ start
  one_output before all link outputs outputs' start popped pushed so_far =
      ap (λ l. l ++ outputs_back before) pushed
      ∙ (append_assoc outputs (link.output ∷ []) (outputs_back before)
      ∙ (ap (λ l. outputs ++ l)
      (sym (ap outputs_back popped ∙ ap (map (λ l. l.output)) (reverse-append before (link ∷ [])))) ∙ so_far))

  -- the outputs of ports, port 1 first again
  pub port_1_first : (tunnel : O) (links : List (Link I O))
      → tunnel ∷ reverse (outputs_back links) ≡ outputs_of tunnel links
  port_1_first tunnel links =
      ap (λ l. tunnel ∷ l)
      (ap reverse (map_reverse (λ l. l.output) links) ∙ reverse-reverse (map (λ l. l.output) links))
