-- the table's invariant and what callers see, after each step on one node
use Rattle.std.proofs.Common.{ℕ, zero, suc, ◌+◌, ◌-◌, ◌<◌, ◌≤◌, ◌≡◌, ◌≢◌, inl, inr, Bool, true, false, not, cond, eqb}
use Rattle.std.proofs.Common.{◌&&◌, Option, Some, None, List, [], ◌∷◌, ◌++◌, length, get_or, set, map, drop}
use Rattle.std.proofs.Common.{replicate, slice_get, refl, ap, sym, ◌∙◌, arith}
use Rattle.std.specs.Prelude.{nat_lt, nat_le, IfSome, IfNone, is_some, is_none, count_by}
use Rattle.std.specs.List.{range_with_len}
use Rattle.std.specs.Option.{option_map}
use Rattle.std.specs.FinMap.{empty, get, insert, len, len-empty}
use Rattle.std.proofs.Math.Seq.{map-set_same}
use Rattle.std.proofs.Math.ListN.{get_or-map as get_or-map_same}
use Rattle.std.proofs.lemmas.List.{get_or_default, length-replicate, length-set}
use Rattle.std.proofs.lemmas.List.{map-append, length-map}
use Rattle.std.proofs.lemmas.Bool.{cases_eq, cases_lt, eq-eqb, ne_eqb, false≢true}
use Rattle.std.proofs.lemmas.Option.{slice_get-map, none-some, same_Some}
use Rattle.std.proofs.lemmas.List.Sums.{count_by-le-length, sum_by-cons}
use Rattle.std.proofs.lemmas.Bool.Decides.{nat_tests}
use Rattle.idx_links.specs.Links.{has, without, Apart, list_at, IsFree, IsLinked}
use Rattle.idx_links.proofs.Paths.{has-at, has-without, apart-push, apart-without, without-absent}
use Rattle.mac_arena.specs.declared.station.Station.{Station}
use Rattle.mac_arena.specs.declared.station.Entry.{Entry}
use Rattle.mac_arena.specs.declared.station.Learned.{Learned}
use Rattle.mac_arena.specs.Station.{station_cmp, bucket_of}
use Rattle.mac_arena.specs.Orders.{Orders}
use Rattle.mac_arena.specs.Inner.Orders.{joined}
use Rattle.mac_arena.specs.Learning.{Learning, nothing_learnt, bucket_in, left, stations_at, place_of}
use Rattle.mac_arena.specs.Learning.{entry_at, is_full, first_unpinned, learned_of, learned_at, IsLatest}
use Rattle.mac_arena.specs.Learning.{entered}
use Rattle.mac_arena.specs.Inner.Learning.{heard, held, shifted, dropped}
use Rattle.mac_arena.specs.Inner.Slot.{heard_on, held_on, shifted_to}
use Rattle.mac_arena.specs.Entry.{pinned_at, heard_at}
use Rattle.mac_arena.specs.Nodes.{slot_at, station_in, last_of, entries_of, learning_of, in_chain, in_port}
use Rattle.mac_arena.specs.Nodes.{in_ageing, NeverFalls, IsTable}
use Rattle.mac_arena.proofs.Entries.{Slots, AreAlone, IsOff, slot_here, slot_there, slot_below, at_each, node_of}
use Rattle.mac_arena.proofs.Entries.{entry_is}
use Rattle.mac_arena.proofs.Entries.{entries_set, entries_unset, len_new, len_known, len_gone}
use Rattle.mac_arena.proofs.Steps.{has-end, Name, names_kept, names_joined, names_taken, names_rejoined, not_twice}
use Rattle.mac_arena.proofs.Steps.{apart-taken, apart-joined, falls-without, falls-same, falls-push, list_kept}
use Rattle.mac_arena.proofs.Steps.{lists_kept, same_stations, lists_joined, stations_of, list_left, lists_left}
use Rattle.mac_arena.proofs.Steps.{IsOnly, places_of, places_set, place_alone, first_out, alone_new, alone_same}
use Rattle.mac_arena.proofs.Steps.{alone_less, count_set}

-- ---- a table of nodes

pub place_seen : (slots : Slots) (n : ℕ)
    → get_or (places_of slots) n None ≡ option_map (λ (x : Learned). x.station) (slot_at slots n)
place_seen slots n = get_or-map_same (option_map (λ (x : Learned). x.station)) slots n None

-- the content of a node's slot
pub slot_seen : (o : Orders) (slots : Slots) (salt : ℕ) → AreAlone slots → (n : ℕ)
    → learned_at (learning_of o slots salt) n ≡ slot_at slots n
slot_seen o slots salt alone n = rw (place_seen slots n) (go (slot_at slots n) refl)
  where
    go : (v : Option Learned) → slot_at slots n ≡ v → learned_of (learning_of o slots salt)
        (option_map (λ (x : Learned). x.station) v) ≡ v
    go None e = refl
    go (Some x) e = rw (entry_is slots alone n x e)

-- a station that isn't in the map stands nowhere
pub stands_nowhere : (slots : Slots) (s : Station) → AreAlone slots → get (entries_of slots) s ≡ None → (n : ℕ)
    → IsOff (slot_at slots n) s
stands_nowhere slots s alone none n x is e = none-some x.entry (sym none ∙ rw (← e) (entry_is slots alone n x is))

used_from : (F : Option Learned → Bool) → F None ≡ false → (v : Option Learned) → F v ≡ true
    → (y : Learned) × (v ≡ Some y)
used_from F none None on = absurd (false≢true (sym none ∙ on))
used_from F none (Some y) on = (y, refl)

module _ {o : Orders} {slots : Slots} {count buckets salt : ℕ} (t : IsTable o slots count buckets salt) where
  -- a free node is an empty place
  pub free_slot : (n : ℕ) → has o.free n ≡ true → (n < length slots) × (slot_at slots n ≡ None)
  free_slot n on = (let both = sym (t.freed n) ∙ on in (grind (arith, nat_tests, both), grind (arith, both)))

  -- a node on a list has a station
  pub ageing_used : (m : ℕ) → has o.ageing m ≡ true → (y : Learned) × (slot_at slots m ≡ Some y)
  ageing_used m on = used_from in_ageing refl (slot_at slots m) (sym (t.aged m) ∙ on)

  pub ports_used : (k m : ℕ) → has (list_at o.ports k) m ≡ true → (y : Learned) × (slot_at slots m ≡ Some y)
  ports_used k m on = used_from (λ v. in_port v k) refl (slot_at slots m) (sym (t.ported k m) ∙ on)

  pub chains_used : (k m : ℕ) → has (list_at o.chains k) m ≡ true → (y : Learned) × (slot_at slots m ≡ Some y)
  chains_used k m on = used_from (λ v. in_chain buckets salt v k) refl (slot_at slots m) (sym (t.chained k m) ∙ on)

  -- a list of the table has a node's station once
  pub only_one : (n : ℕ) (a : Learned) → slot_at slots n ≡ Some a → (xs : List ℕ)
      → ((m : ℕ) → has xs m ≡ true → (y : Learned) × (slot_at slots m ≡ Some y)) → IsOnly (station_in slots) n xs
  only_one n a is xs used m on same = (let there = used m on in
      t.alone m n there.0 a there.1 is (rw (there.1, is) at same))

  -- a node that is in use is on its station's chain
  in_use : (n : ℕ) (a : Learned) → slot_at slots n ≡ Some a
      → has (list_at o.chains (bucket_of buckets salt a.station)) n ≡ true
  in_use n a is = rw (t.chained (bucket_of buckets salt a.station) n, is) (eq-eqb (bucket_of buckets salt a.station) _
      refl)

port_place : (p : ℕ) → 0 < p → (k : ℕ) → eqb p (k + 1) ≡ eqb (p - 1) k
port_place p h k = grind (arith, nat_tests)

-- ---- a table of nodes, seen as v

pub record Found (o : Orders) (slots : Slots) (count buckets salt : ℕ) (v : Learning) : Type 0 where
  pub table : IsTable o slots count buckets salt
  pub seen : learning_of o slots salt ≡ v

pub found_by : {o : Orders} {slots : Slots} {count buckets salt : ℕ} {v : Learning} → IsTable o slots count buckets salt
    → learning_of o slots salt ≡ v → Found o slots count buckets salt v
found_by t seen = record { table = t; seen = seen }

pub same_learning : {v w : Learning} → v.entries ≡ w.entries → v.ageing ≡ w.ageing → v.ports ≡ w.ports
    → v.chains ≡ w.chains → v.places ≡ w.places → v.free ≡ w.free → v.salt ≡ w.salt → v ≡ w
same_learning entries ageing ports chains places free salt = λ i. record {
  entries = entries i;
  ageing = ageing i;
  ports = ports i;
  chains = chains i;
  places = places i;
  free = free i;
  salt = salt i;
}

module _ {o : Orders} {slots : Slots} {count buckets salt : ℕ} {v : Learning}
    (found : Found o slots count buckets salt v) where
  pub slot_is : (n : ℕ) → learned_at v n ≡ slot_at slots n
  slot_is n = rw (← found.seen) (slot_seen o slots salt found.table.alone n)

  -- what callers see of each part
  pub entries_seen : entries_of slots ≡ v.entries
  entries_seen = ap (λ w. w.entries) found.seen

  ageing_seen : map (station_in slots) o.ageing ≡ v.ageing
  ageing_seen = ap (λ w. w.ageing) found.seen

  ports_seen : map (map (station_in slots)) o.ports ≡ v.ports
  ports_seen = ap (λ w. w.ports) found.seen

  chains_seen : map (map (station_in slots)) o.chains ≡ v.chains
  chains_seen = ap (λ w. w.chains) found.seen

  places_seen : places_of slots ≡ v.places
  places_seen = ap (λ w. w.places) found.seen

  pub free_seen : o.free ≡ v.free
  free_seen = ap (λ w. w.free) found.seen

  salt_seen : salt ≡ v.salt
  salt_seen = ap (λ w. w.salt) found.seen

  pub ports_in : length v.ports ≡ length o.ports
  ports_in = rw (← ports_seen, length-map)

  pub bucket_is : (s : Station) → bucket_in v s ≡ bucket_of buckets salt s
  bucket_is s = rw (← chains_seen, ← salt_seen, length-map, found.table.buckets_are)

  latest_in : (second : ℕ) → IsLatest v second → (v' : Option Learned) (m : ℕ) → slot_at slots m ≡ v'
      → last_of v' ≤ second
  latest_in second latest None m at = omega arith
  latest_in second latest (Some y) m at = latest y.station y.entry
      (rw entries_seen at (entry_is slots found.table.alone m y at))

  -- the node of a known station
  module _ (n : ℕ) {a : Learned} (at : learned_at v n ≡ Some a) where
    pub at_node : slot_at slots n ≡ Some a
    at_node = sym (slot_is n) ∙ at

    pub low : n < length slots
    low = slot_below slots n a at_node

    pub node_in : n < o.nodes
    node_in = rw found.table.nodes low

    pub ageing_is : has o.ageing n ≡ not a.entry.pinned
    ageing_is = rw (found.table.aged n, at_node)

    pub is_used : has o.free n ≡ false
    is_used = rw (found.table.freed n, at_node) (grind arith)

    pub is_chained : IsLinked o.chains n
    is_chained = (bucket_of buckets salt a.station, in_use found.table n a at_node)

    pub is_ported : IsLinked o.ports n
    is_ported = (
      a.entry.port - 1,
      rw (found.table.ported (a.entry.port - 1) n, at_node) (eq-eqb a.entry.port _
          (let some = found.table.based n a at_node in omega (arith, some))),
    )

    ageing_left : map (station_in slots) (without n o.ageing) ≡ left a.station v.ageing
    ageing_left = rw (
      list_left (station_in slots) o.ageing n (only_one found.table n a at_node o.ageing
          (ageing_used found.table)),
      ageing_seen,
      at_node,
    )

    ports_left : map (map (station_in slots)) (map (without n) o.ports) ≡ map (left a.station) v.ports
    ports_left = rw (
      lists_left (station_in slots) o.ports n (λ k. only_one found.table n a at_node (list_at o.ports k)
          (ports_used found.table k)),
      ports_seen,
      at_node,
    )

    chains_left : map (map (station_in slots)) (map (without n) o.chains) ≡ map (left a.station) v.chains
    chains_left = rw (
      lists_left (station_in slots) o.chains n (λ k. only_one found.table n a at_node (list_at o.chains k)
          (chains_used found.table k)),
      chains_seen,
      at_node,
    )

    -- its entry changes, and perhaps its place on the ageing list and the ports' lists
    module _ (e : Entry) where
      abbrev changed : Option Learned
      changed = Some (record { station = a.station; entry = e })

      abbrev slots' : Slots
      slots' = set slots n (Some (record { station = a.station; entry = e }))

      same_ports : e.port ≡ a.entry.port → Name in_port slots' o.ports
      same_ports same = names_kept in_port slots o.ports n changed low found.table.ported (λ k. rw (same, at_node))

      changes : (ageing : List ℕ) (ports : List (List ℕ)) {xs : List Station} {ps : List (List Station)}
          → Name in_port slots' ports → ((l : ℕ) → Apart (list_at ports l))
          → ((m : ℕ) → has ageing m ≡ in_ageing (slot_at slots' m)) → Apart ageing → NeverFalls slots' ageing
          → (e.pinned ≡ true → e.last ≡ 0) → 0 < e.port → map (station_in slots) ageing ≡ xs
          → map (map (station_in slots)) ports ≡ ps
          → Found (record o { ageing = ageing; ports = ports }) slots' count buckets salt
          (record v { entries = insert v.entries a.station e; ageing = xs; ports = ps })
      changes ageing ports ported ports_apart aged ageing_apart rising timeless based xs_are ps_are =
          let t = found.table in
          let alone : AreAlone slots' = alone_same slots n a _ t.alone at_node refl in
          let entries = entries_set slots n _ low alone
          (λ q ne y at s. ne (sym s ∙ ap (λ (w : Learned). w.station) (same_Some y a (sym at ∙ at_node)))) in
          let stations = same_stations slots n a (record { station = a.station; entry = e }) at_node refl in
          found_by
          (record {
            nodes = rw length-set t.nodes;
            buckets_are = t.buckets_are;
            some_bucket = t.some_bucket;
            chained = names_kept (in_chain buckets salt) slots o.chains n changed low t.chained (λ k. rw at_node);
            ported = ported;
            aged = aged;
            freed = rw length-set (at_each (λ m w. has o.free m ≡ (nat_lt m (length slots) && is_none w)) slots n
                changed
                None low (rw is_used (grind arith)) (λ m ne. t.freed m));
            chains_apart = t.chains_apart;
            ports_apart = ports_apart;
            ageing_apart = ageing_apart;
            free_apart = t.free_apart;
            alone = alone;
            timeless = at_each (λ m w. (x : Learned) → w ≡ Some x → x.entry.pinned ≡ true → x.entry.last ≡ 0) slots n
                changed None low (λ x at. rw (← same_Some _ x at) timeless) (λ m ne. t.timeless m);
            based = at_each (λ m w. (x : Learned) → w ≡ Some x → 0 < x.entry.port) slots n changed None low
                (λ x at. rw (← same_Some _ x at) based) (λ m ne. t.based m);
            rising = rising;
            counted = rw (
              entries,
              len_known (entries_of slots) a.station e a.entry (entry_is slots t.alone n a
                  at_node),
            )
                t.counted;
            filled = (let change = rw at_node at (count_set slots n changed low) in let all = t.filled in
                omega (arith, change, all));
          })
          (same_learning (rw (entries, entries_seen)) (rw stations xs_are) (rw stations ps_are)
          (rw stations chains_seen) (map-set_same (option_map (λ (x : Learned). x.station)) slots n changed None (rw
          at_node)
          ∙ places_seen) free_seen salt_seen)

    -- a pinned station is heard
    pub is_heard : (second : ℕ) → a.entry.pinned ≡ true → IsLatest v second → {w : Option Learned}
        → w ≡ Some (heard_on second a)
        → Found (record o { ageing = o.ageing ++ n ∷ [] }) (set slots n w) count buckets salt
        (heard v a.station a.entry.port second)
    is_heard second pinned latest slot =
        let e = heard_at a.entry.port second in
        let x = changed e in
        let off : has o.ageing n ≡ false = ageing_is ∙ ap not pinned in
        let there : (m : ℕ) → has o.ageing m ≡ true → m ≢ n = λ m on s. false≢true (rw (s, off) at on) in
        rw slot (changes e (o.ageing ++ n ∷ []) o.ports (same_ports e refl) found.table.ports_apart
        (at_each (λ m w. has (o.ageing ++ n ∷ []) m ≡ in_ageing w) slots n x None low
        (rw (has-end o.ageing n n, eq-eqb n n refl))
        (λ m ne. rw (has-end o.ageing n m, ne_eqb n m (λ s. ne (sym s))) (found.table.aged m)))
        (apart-push o.ageing n found.table.ageing_apart off)
        (falls-push (slots' e) o.ageing n (falls-same slots (slots' e) o.ageing found.table.rising
        (λ m on. rw (slot_there slots n m x (there m on))))
        (λ m on. rw (slot_there slots n m x (there m on), slot_here slots n x low)
        (latest_in second latest (slot_at slots m) m refl)))
        (λ p. absurd (false≢true p)) (found.table.based n a at_node) (rw (map-append, ageing_seen, at_node)) ports_seen)

    -- an ageing station is pinned where it is
    pub is_held : {w : Option Learned} → w ≡ Some (held_on a)
        → Found (record o { ageing = without n o.ageing }) (set slots n w) count buckets salt
        (held v a.station a.entry.port)
    is_held slot =
        let e = pinned_at a.entry.port in
        let x = changed e in
        let gone : (m : ℕ) → has (without n o.ageing) m ≡ cond (eqb m n) false (has o.ageing m) =
        λ m. has-without o.ageing n m found.table.ageing_apart in
        rw slot (changes e (without n o.ageing) o.ports (same_ports e refl) found.table.ports_apart
        (at_each (λ m w. has (without n o.ageing) m ≡ in_ageing w) slots n x None low (rw (gone n, eq-eqb n n refl))
        (λ m ne. rw (gone m, ne_eqb m n ne) (found.table.aged m)))
        (apart-without o.ageing n found.table.ageing_apart)
        (falls-same slots (slots' e) (without n o.ageing) (falls-without slots o.ageing n found.table.rising)
        (λ m on. rw (slot_there slots n m x (λ s. false≢true (rw (gone m, eq-eqb m n s) at on)))))
        (λ p. refl) (found.table.based n a at_node) ageing_left ports_seen)

    -- a station goes to another port
    pub is_shifted : (port : ℕ) → 0 < port → port ≤ length v.ports → {w : Option Learned} → w ≡ Some (shifted_to port a)
        → Found (record o { ports = joined (port - 1) n (map (without n) o.ports) }) (set slots n w) count buckets salt
        (shifted v a.station a.entry port)
    is_shifted port some there slot =
        let e : Entry = record a.entry { port = port } in
        let x = changed e in
        let less : port - 1 < length o.ports = (let same = ports_in in omega (arith, same, there, some)) in
        rw slot (changes e o.ageing (joined (port - 1) n (map (without n) o.ports))
        (names_rejoined in_port slots o.ports n (port - 1) x low less found.table.ports_apart found.table.ported
        (λ k. refl) (port_place port some))
        (apart-joined (map (without n) o.ports) (port - 1) n (rw length-map less)
        (apart-taken o.ports n found.table.ports_apart) (not_twice o.ports n found.table.ports_apart (port - 1)))
        (at_each (λ m w. has o.ageing m ≡ in_ageing w) slots n x None low ageing_is (λ m ne. found.table.aged m))
        found.table.ageing_apart
        (falls-same slots (slots' e) o.ageing found.table.rising (λ m on.
        at_each (λ m w. last_of w ≡ last_of (slot_at slots m)) slots n x None low (rw at_node) (λ m ne. refl) m))
        (found.table.timeless n a at_node) some ageing_seen
        (lists_joined (station_in slots) (map (without n) o.ports) (port - 1) n ∙ rw (at_node, ports_left)))

    -- a pinned station leaves
    pub is_dropped : a.entry.pinned ≡ true → Found (record o {
      chains = map (without n) o.chains;
      ports = map (without n) o.ports;
      free = o.free ++ n ∷ [];
    }) (set slots n None) (count - 1) buckets salt (dropped v a.station)
    is_dropped pinned =
        let t = found.table in
        let off : has o.ageing n ≡ false = ageing_is ∙ ap not pinned in
        let place : n ≡ place_of v.places a.station = rw (← places_seen) (sym (place_alone slots t.alone n a at_node))
        in
        let entries = entries_unset slots n a t.alone at_node in
        found_by
        (record {
          nodes = rw length-set t.nodes;
          buckets_are = rw length-map t.buckets_are;
          some_bucket = t.some_bucket;
          chained = names_taken (in_chain buckets salt) slots o.chains n None low t.chained t.chains_apart (λ k. refl);
          ported = names_taken in_port slots o.ports n None low t.ported t.ports_apart (λ k. refl);
          aged = at_each (λ m w. has o.ageing m ≡ in_ageing w) slots n None None low off (λ m ne. t.aged m);
          freed = rw length-set (at_each (λ m w. has (o.free ++ n ∷ []) m ≡ (nat_lt m (length slots) && is_none w))
              slots
              n None None low (rw (has-end o.free n n, eq-eqb n n refl) (grind (arith, nat_tests, low)))
              (λ m ne. rw (has-end o.free n m, ne_eqb n m (λ s. ne (sym s))) (t.freed m)));
          chains_apart = apart-taken o.chains n t.chains_apart;
          ports_apart = apart-taken o.ports n t.ports_apart;
          ageing_apart = t.ageing_apart;
          free_apart = apart-push o.free n t.free_apart is_used;
          alone = alone_less slots n low t.alone;
          timeless = at_each (λ m w. (x : Learned) → w ≡ Some x → x.entry.pinned ≡ true → x.entry.last ≡ 0) slots n None
              None low (λ x e. absurd (none-some x e)) (λ m ne. t.timeless m);
          based = at_each (λ m w. (x : Learned) → w ≡ Some x → 0 < x.entry.port) slots n None None low
              (λ x e. absurd (none-some x e)) (λ m ne. t.based m);
          rising = falls-same slots (set slots n None) o.ageing t.rising
              (λ m on. rw (slot_there slots n m None (λ s. false≢true (rw (s, off) at on))));
          counted = rw (
            entries,
            len_gone (entries_of slots) a.station a.entry (entry_is slots t.alone n a at_node),
            t.counted,
          );
          filled = (let change = rw at_node at (count_set slots n None low) in let all = t.filled in
              omega (arith, change, all));
        })
        (same_learning (rw (entries, entries_seen)) (list_kept slots o.ageing n None off ∙ ageing_seen)
        (lists_kept slots (map (without n) o.ports) n None (not_twice o.ports n t.ports_apart) ∙ ports_left)
        (lists_kept slots (map (without n) o.chains) n None (not_twice o.chains n t.chains_apart) ∙ chains_left)
        (rw (places_set, places_seen, ← place)) (rw (free_seen, ← place)) salt_seen)

  -- a pinned station isn't on the ageing list
  pub not_ageing : (n : ℕ) (a : Learned) → learned_at v n ≡ Some a → a.entry.pinned ≡ true
      → left a.station v.ageing ≡ v.ageing
  not_ageing n a at pinned = sym (ageing_left n at)
      ∙ ap (map (station_in slots)) (without-absent o.ageing n (ageing_is n at ∙ ap not pinned)) ∙ ageing_seen

  -- a station that isn't known takes the first free node
  module _ (n : ℕ) (first : slice_get v.free 0 ≡ Some n) where
    first_is : slice_get o.free 0 ≡ Some n
    first_is = rw free_seen first

    pub takes_free : has o.free n ≡ true
    takes_free = (first_out o.free n first_is).2

    nobody : slot_at slots n ≡ None
    nobody = (free_slot found.table n takes_free).1

    pub takes_low : n < length slots
    takes_low = (free_slot found.table n takes_free).0

    pub takes_node : n < o.nodes
    takes_node = rw found.table.nodes takes_low

    pub takes_ageless : has o.ageing n ≡ false
    takes_ageless = rw (found.table.aged n, nobody)

    pub takes_unchained : IsFree o.chains n
    takes_unchained l = rw (found.table.chained l n, nobody)

    pub takes_unported : IsFree o.ports n
    takes_unported l = rw (found.table.ported l n, nobody)

    pub is_entered : (s : Station) (port : ℕ) → entry_at v s ≡ None → 0 < port → port ≤ length v.ports → Found (record
        o {
          chains = joined (bucket_of buckets salt s) n o.chains;
          ports = joined (port - 1) n o.ports;
          free = without n o.free;
        }) (set slots n (Some (record { station = s; entry = pinned_at port }))) (count + 1) buckets salt
        (entered v s port)
    is_entered s port none some there =
        let t = found.table in
        let x : Learned = record { station = s; entry = pinned_at port } in
        let b = bucket_of buckets salt s in
        let h = takes_low in
        let low : b < length o.chains = (let many = t.buckets_are in let least = t.some_bucket in
        omega (arith, many, least)) in
        let less : port - 1 < length o.ports = (let same = ports_in in omega (arith, same, there, some)) in
        let unknown = rw (← entries_seen) at none in
        let alone : AreAlone (set slots n (Some x)) = alone_new slots n x h t.alone (λ m ne. stands_nowhere slots s
        t.alone unknown m) in
        let entries = entries_set slots n x h alone (λ q ne y at e. none-some y (sym nobody ∙ at)) in
        let f = station_in (set slots n (Some x)) in
        let here : f n ≡ s = rw (slot_here slots n (Some x) h) in
        let out = first_out o.free n first_is in
        found_by
        (record {
          nodes = rw length-set t.nodes;
          buckets_are = rw length-set t.buckets_are;
          some_bucket = t.some_bucket;
          chained = names_joined (in_chain buckets salt) slots o.chains n (Some x) h t.chained b low (λ k. rw nobody)
              (λ k. refl);
          ported = names_joined in_port slots o.ports n (Some x) h t.ported (port - 1) less (λ k. rw nobody)
              (port_place port some);
          aged = at_each (λ m w. has o.ageing m ≡ in_ageing w) slots n (Some x) None h takes_ageless (λ m ne. t.aged m);
          freed = rw length-set (at_each (λ m w. has (without n o.free) m ≡ (nat_lt m (length slots) && is_none w))
              slots
              n (Some x) None h (rw (has-without o.free n n t.free_apart, eq-eqb n n refl) (grind arith))
              (λ m ne. rw (has-without o.free n m t.free_apart, ne_eqb m n ne) (t.freed m)));
          chains_apart = apart-joined o.chains b n low t.chains_apart (takes_unchained b);
          ports_apart = apart-joined o.ports (port - 1) n less t.ports_apart (takes_unported (port - 1));
          ageing_apart = t.ageing_apart;
          free_apart = apart-without o.free n t.free_apart;
          alone = alone;
          timeless = at_each (λ m w. (y : Learned) → w ≡ Some y → y.entry.pinned ≡ true → y.entry.last ≡ 0) slots n
              (Some x) None h (λ y at. rw (← same_Some x y at) (λ p. refl)) (λ m ne. t.timeless m);
          based = at_each (λ m w. (y : Learned) → w ≡ Some y → 0 < y.entry.port) slots n (Some x) None h
              (λ y at. rw (← same_Some x y at) some) (λ m ne. t.based m);
          rising = falls-same slots (set slots n (Some x)) o.ageing t.rising
              (λ m on. rw (slot_there slots n m (Some x) (λ s. false≢true (rw (s, takes_ageless) at on))));
          counted = (let more = len_new (entries_of slots) s (pinned_at port) unknown in rw (entries, more, t.counted));
          filled = (let change = rw nobody at (count_set slots n (Some x) h) in let all = t.filled in
              omega (arith, change, all));
        })
        (same_learning (rw (entries, entries_seen)) (list_kept slots o.ageing n (Some x) takes_ageless ∙ ageing_seen)
        (lists_joined f o.ports (port - 1) n
        ∙ rw (here, lists_kept slots o.ports n (Some x) takes_unported, ports_seen))
        (lists_joined f o.chains b n
        ∙ rw (here, lists_kept slots o.chains n (Some x) takes_unchained, chains_seen, ← bucket_is s))
        (rw (places_set, places_seen, ← out.0, free_seen)) (out.1 ∙ ap (drop 1) free_seen) salt_seen)

-- ---- nothing is learnt

map-replicate : {A B : Type 0} (f : A → B) (n : ℕ) (x : A) → map f (replicate n x) ≡ replicate n (f x)
map-replicate f zero x = refl
map-replicate f (suc n) x = ap (λ ys. f x ∷ ys) (map-replicate f n x)

nobody_at : (capacity n : ℕ) → slot_at (replicate capacity None) n ≡ None
nobody_at zero n = refl
nobody_at (suc capacity) zero = refl
nobody_at (suc capacity) (suc n) = nobody_at capacity n

no_list : (count l : ℕ) → list_at (replicate count []) l ≡ []
no_list zero l = refl
no_list (suc count) zero = refl
no_list (suc count) (suc l) = no_list count l

no_entries : (capacity : ℕ) → entries_of (replicate capacity None) ≡ empty
no_entries zero = refl
no_entries (suc capacity) = no_entries capacity

none_filled : (capacity : ℕ) → count_by (is_some {T = Learned}) (replicate capacity None) ≡ 0
none_filled zero = refl
none_filled (suc capacity) = none_filled capacity

range_has : (a n m : ℕ) → has (range_with_len a n) m ≡ (nat_le a m && nat_lt m (a + n))
range_has a zero m = grind (arith, nat_tests)
range_has a (suc n) m = rw (range_has (a + 1) n m) (grind (arith, nat_tests))

range_apart : (a n : ℕ) → Apart (range_with_len a n)
range_apart a zero = tt
range_apart a (suc n) = (rw (range_has (a + 1) n a) (grind (arith, nat_tests)), range_apart (a + 1) n)

pub nothing_found : (capacity ports buckets salt : ℕ) → 0 < buckets → Found (record {
  nodes = capacity;
  chains = replicate buckets [];
  ports = replicate ports [];
  ageing = [];
  free = range_with_len 0 capacity;
}) (replicate capacity None) 0 buckets salt (nothing_learnt capacity ports buckets salt)
nothing_found capacity ports buckets salt some =
    let off : (n : ℕ) (x : Learned) → slot_at (replicate capacity None) n ≡ Some x → ⊥ =
    λ n x at. none-some x (sym (nobody_at capacity n) ∙ at) in
    found_by
    (record {
      nodes = rw length-replicate;
      buckets_are = length-replicate buckets [];
      some_bucket = some;
      chained = λ b n. rw (no_list buckets b, nobody_at capacity n);
      ported = λ l n. rw (no_list ports l, nobody_at capacity n);
      aged = λ n. rw (nobody_at capacity n);
      freed = λ n. rw (range_has 0 capacity n, nobody_at capacity n, length-replicate) (grind (arith, nat_tests));
      chains_apart = λ b. rw (no_list buckets b) tt;
      ports_apart = λ l. rw (no_list ports l) tt;
      ageing_apart = tt;
      free_apart = range_apart 0 capacity;
      alone = λ n m x y at at' same. absurd (off n x at);
      timeless = λ n x at p. absurd (off n x at);
      based = λ n x at. absurd (off n x at);
      rising = tt;
      counted = rw (no_entries capacity, len-empty station_cmp Entry);
      filled = rw none_filled;
    })
    (same_learning (no_entries capacity) refl (map-replicate (map _) ports []) (map-replicate (map _) buckets [])
    (map-replicate _ capacity None) refl refl)

-- the content of a node that was written
pub at_new : {o : Orders} (slots : Slots) (n : ℕ) {x : Option Learned} {count buckets salt : ℕ} {v : Learning}
    → n < length slots → Found o (set slots n x) count buckets salt v
    → learned_at (learning_of o (set slots n x) salt) n ≡ x
at_new {o} slots n {x} {salt = salt} h found = slot_seen o (set slots n x) salt found.table.alone n
    ∙ slot_here slots n x h

-- ---- room

all_filled : (slots : Slots) → ((n : ℕ) → n < length slots → slot_at slots n ≢ None)
    → count_by is_some slots ≡ length slots
all_filled [] h = refl
all_filled (None ∷ slots) h = absurd (h 0 (omega arith) refl)
all_filled (Some x ∷ slots) h = (let rest = all_filled slots (λ n b. h (suc n) (omega arith)) in
    let step : count_by is_some (Some x ∷ slots) ≡ 1 + count_by is_some slots =
    sum_by-cons (λ (o : Option Learned). cond (is_some o) 1 0) (Some x) slots in omega (arith, rest, step))

some_free : (slots : Slots) (n : ℕ) → n < length slots → slot_at slots n ≡ None → count_by is_some slots < length slots
some_free slots n h none =
    let x : Learned = record { station = record { vni = 0; mac = 0 }; entry = pinned_at 0 } in
    let change = rw none at (count_set slots n (Some x) h) in
    let most = count_by-le-length is_some (set slots n (Some x)) in
    let long = length-set slots n (Some x) in
    omega (arith, change, most, long)

module _ {o : Orders} {slots : Slots} {count buckets salt : ℕ} {v : Learning}
    (found : Found o slots count buckets salt v) where
  known_is : len v.entries ≡ count_by is_some slots
  known_is = rw (← entries_seen found, ← found.table.counted) found.table.filled

  pub places_in : length v.places ≡ length slots
  places_in = rw (← places_seen found, length-map)

  pub first_free_cases : (r : Option ℕ) → r ≡ slice_get o.free 0
      → IfSome r (λ n. is_full v ≡ false) × IfNone r (is_full v ≡ true)
  first_free_cases None is = (
    tt,
    rw (known_is, places_in) (eq-eqb _ _ (all_filled slots (λ n h nobody. nothing_free o.free (sym is) n
        (rw (found.table.freed n, nobody) (grind (arith, nat_tests, h)))))),
  )
    where
      nothing_free : (xs : List ℕ) → slice_get xs 0 ≡ None → (n : ℕ) → has xs n ≡ true → ⊥
      nothing_free [] e n on = false≢true on
      nothing_free (x ∷ xs) e n on = none-some x (sym e)
  first_free_cases (Some n) is = (
    (let free = free_slot found.table n (first_out o.free n (sym is)).2 in
        let fewer = some_free slots n free.0 free.1 in
        rw (known_is, places_in) (ne_eqb _ _ (λ e. omega (arith, fewer, e)))),
    tt,
  )

-- ---- going along a list

has_place : (xs : List ℕ) (n : ℕ) → has xs n ≡ true → (k : ℕ) × (k < length xs) × (slice_get xs k ≡ Some n)
has_place [] n on = absurd (false≢true on)
has_place (x ∷ xs) n on = elim (cases_eq x n) [
  | inl e ↦ (0, omega arith, ap Some e)
  | inr e ↦ (let r = has_place xs n (rw (ne_eqb x n e) at on) in (suc r.0, (let b = r.1 in omega (arith, b)), r.2))
]

-- the nodes of a chain before place i don't hold the station
abbrev pub IsPassed : Slots → List ℕ → Station → ℕ → Type 0
IsPassed slots xs s i = (k n : ℕ) → k < i → slice_get xs k ≡ Some n → IsOff (slot_at slots n) s

pub pass_one : (slots : Slots) (xs : List ℕ) (s : Station) (i n : ℕ) → IsPassed slots xs s i → slice_get xs i ≡ Some n
    → IsOff (slot_at slots n) s → IsPassed slots xs s (i + 1)
pass_one slots xs s i n passed at off k m low at' = elim (cases_lt k i) [
  | inl h ↦ passed k m h at'
  | inr h ↦ (let same : k ≡ i = omega arith in rw (same_Some n m (sym at ∙ rw same at at')) at off)
]

-- the station read at a node
pub read_slot : (slots : Slots) (n : ℕ) (v : Option Learned) → n < length slots → v ≡ get_or slots n v
    → v ≡ slot_at slots n
read_slot slots n v h is = is ∙ get_or_default slots n v None h

module _ {o : Orders} {slots : Slots} {count buckets salt : ℕ} {v : Learning}
    (found : Found o slots count buckets salt v) where
  -- a station whose chain was passed isn't in the table
  pub not_there : (s : Station) (i : ℕ) → IsPassed slots (list_at o.chains (bucket_of buckets salt s)) s i
      → length (list_at o.chains (bucket_of buckets salt s)) ≤ i → entry_at v s ≡ None
  not_there s i passed past = rw (← entries_seen found) (go (get (entries_of slots) s) refl)
    where
      go : (e : Option Entry) → get (entries_of slots) s ≡ e → e ≡ None
      go None e = refl
      go (Some a) e = absurd (
          let at = node_of slots s a e in
          let place = has_place (list_at o.chains (bucket_of buckets salt s)) at.0 (in_use found.table at.0 _ at.1) in
          let low = place.1 in
          passed place.0 at.0 (omega (arith, low, past)) place.2 _ at.1 refl)

  -- the first unpinned station of a list is that of the rest, if those before it are pinned
  pub unpinned_step : (xs : List ℕ) (i n : ℕ) (x : Learned) → slice_get xs i ≡ Some n → slot_at slots n ≡ Some x
      → first_unpinned v (map (station_in slots) (drop i xs))
      ≡ cond x.entry.pinned (first_unpinned v (map (station_in slots) (drop (i + 1) xs))) (Some x.station)
  unpinned_step xs i n x at is =
      let known : entry_at v x.station ≡ Some x.entry =
      rw (entries_seen found) at (entry_is slots found.table.alone n x is) in
      rw (drop_at xs i n at, is, known)
    where
      drop_at : (xs : List ℕ) (i n : ℕ) → slice_get xs i ≡ Some n → drop i xs ≡ n ∷ drop (i + 1) xs
      drop_at [] i n e = absurd (none-some n e)
      drop_at (x ∷ xs) zero n e = rw (same_Some x n e)
      drop_at (x ∷ xs) (suc i) n e = rw (drop_at xs i n e) (let same : suc (i + 1) ≡ suc i + 1 = omega arith in
          ap (λ k. n ∷ drop k (x ∷ xs)) same)

  pub stations_in_port : (l : ℕ) → stations_at v.ports l ≡ map (station_in slots) (list_at o.ports l)
  stations_in_port l = rw (← ports_seen found) (stations_of (station_in slots) o.ports l)

  pub stations_in_chain : (b : ℕ) → stations_at v.chains b ≡ map (station_in slots) (list_at o.chains b)
  stations_in_chain b = rw (← chains_seen found) (stations_of (station_in slots) o.chains b)

  -- the first node of the ageing list
  pub oldest_low : (n : ℕ) → slice_get o.ageing 0 ≡ Some n
      → (y : Learned) × (slot_at slots n ≡ Some y) × (n < length slots)
  oldest_low n at = (let r = ageing_used found.table n (has-at o.ageing 0 n at) in
      (r.0, r.1, slot_below slots n r.0 r.1))

  pub ageing_front : slice_get v.ageing 0 ≡ option_map (station_in slots) (slice_get o.ageing 0)
  ageing_front = rw (← ageing_seen found) (slice_get-map (station_in slots) o.ageing 0)

  -- a node on a chain, or on a port's list, with its station
  pub at_chain : (l i : ℕ) {n : ℕ} {r : Option ℕ} → r ≡ slice_get (list_at o.chains l) i → r ≡ Some n
      → (y : Learned) × (slot_at slots n ≡ Some y) × (n < length slots) × (n < o.nodes) × IsLinked o.chains n
  at_chain l i {n} at is =
      let on = has-at (list_at o.chains l) i n (sym at ∙ is) in
      let r = chains_used found.table l n on in
      let low = slot_below slots n r.0 r.1 in
      (r.0, r.1, low, rw found.table.nodes low, (l, on))

  pub at_port : (l i : ℕ) {n : ℕ} {r : Option ℕ} → r ≡ slice_get (list_at o.ports l) i → r ≡ Some n
      → (y : Learned) × (slot_at slots n ≡ Some y) × (n < length slots) × (n < o.nodes) × IsLinked o.ports n
  at_port l i {n} at is =
      let on = has-at (list_at o.ports l) i n (sym at ∙ is) in
      let r = ports_used found.table l n on in
      let low = slot_below slots n r.0 r.1 in
      (r.0, r.1, low, rw found.table.nodes low, (l, on))

  -- a known station's slot, changed in place
  pub slot_changed : (n : ℕ) {a : Learned} → learned_at v n ≡ Some a → (f : Learned → Learned) {was new : Option
      Learned}
      → was ≡ get_or slots n was → new ≡ option_map f was → new ≡ Some (f a)
  slot_changed n at f {was} read change = rw (change, read_slot slots n was (low found n at) read, at_node found n at)
