-- A run of edges: the input that is read out, and the texts at the end.
use Rattle.std.proofs.Common.{◌≡◌, inl, inr, ℕ, ◌+◌, ◌-◌, ◌<◌, ◌^◌, min, Bool, false, not, ◌||◌, nat_lt, List, [], ◌∷◌}
use Rattle.std.proofs.Common.{◌++◌, take, length, get_or, map, reverse, append_assoc, Result, Ok, Err, is_ok, refl}
use Rattle.std.proofs.Common.{MatchOption, Some, None, sym, ap, subst, ◌∙◌, arith}
use Rattle.std.proofs.Math.Seq.{take-length}
use Rattle.std.proofs.lemmas.List.{append-nil, take_more, map-append, reverse-append}
use Rattle.std.proofs.lemmas.List.Sums.{sum_by_push}
use Rattle.std.specs.List.{sum_by, list_any}
use Rattle.std.proofs.lemmas.List.Elements.{Contains-append_left, Contains-append_right}
use Rattle.std.specs.List.{concat, Contains}
use Rattle.ether_wire.specs.declared.ends.Device as device
use Rattle.ether_wire.specs.Ends.{End, Source, IsOpen, Gets, Puts, with_text}
use Rattle.ev_edge.specs.declared.config.EdgeConfig.{EdgeConfig}
use Rattle.ev_edge.specs.Config.{IsConfig}
use Rattle.ev_links.specs.WireOut.{destination_of}
use Rattle.ev_links.specs.declared.wire_out.WireOut.{WireOut}
use Rattle.ev_peers.specs.declared.edge_links.Link.{Link}
use Rattle.ev_peers.specs.EdgeThreads.{EdgeSetup, setup_of}
use Rattle.ev_config.specs.declared.endpoint.Endpoint.{Endpoint}
use Rattle.ev_config.specs.declared.whole.Config.{Config}
use Rattle.ev_run.specs.declared.bound.Cable.{Cable}
use Rattle.ev_run.specs.declared.bound.Sockets.{Sockets}
use Rattle.ev_run.specs.Links.{sends_to, destinations_of, begun_of, AreSetupsOf}
use Rattle.ev_links.specs.declared.device_name.DeviceName.{DeviceName}
use Rattle.ev_run.specs.LinkEnds.{LinkEnd}
use Rattle.ev_run.specs.Inner.Sockets.{sent_to, remote_end, to_remote}
use Rattle.ev_run.specs.declared.sockets.BindError.{BindError}
use Rattle.ev_run.specs.declared.taps.AttachError.{AttachError}
use Rattle.ev_run.specs.declared.sockets.StartError.{StartError}
use Rattle.ev_run.specs.declared.sockets.StartError.TheVariants.{Unbindable, Unattached, Unnamed, NoMemory}
use Rattle.ev_run.specs.Sockets.{endpoints_of, all_ends, all_remotes, lacks_address, Hinders}
use Rattle.ev_report.specs.Ends.{Devices, devices, has_failed, Holds, Gives, Passes}
use Rattle.ev_report.specs.declared.input.ReadError.TheVariants.{Device}
use Rattle.ev_report.specs.Input.{ReadsWhole, Gathers}
use Rattle.ev_report.specs.Notes.{status_of}
use Rattle.ev_run.specs.RunEdges.{bind_error_text, no_device_text, Ended, reports_from, noted_text, sends_failed}
use Rattle.ev_run.specs.Inner.RunEdges.{EachConfig}
use Rattle.ev_run.specs.RunEdges.{system_text, Ran}
use Rattle.ev_run.specs.RunEdges.{link_failed, was_out_of_memory, all_lost, IsReadOut, ReadsOut, TellsEnded}
use Rattle.ev_run.specs.Inner.RunEdges.{PutsRest, TellsRest}
use Rattle.ev_mailboxes.specs.Notices.{Told, lines_of}
use Rattle.ether_wire.proofs.Appending.{puts_behind}
use Rattle.ev_run.specs.RunEdges.{start_text, IsStartError, Begins, RunsEdges}
use Rattle.ev_run.specs.Needs.{threads_of}
use Rattle.ev_run.specs.ThreadCheck.{IsTooFew, too_few_text}
use Rattle.ev_run.specs.declared.thread_check.ThreadPolicy.{ThreadPolicy}
use Rattle.ev_run.specs.declared.thread_check.TooFewThreads.{TooFewThreads}
use Rattle.ev_run.proofs.Threads.{StopsBy, lacks_threads, passed_few}
use Rattle.ev_report.proofs.Finishing.{put_holds, put_failed, passed_out, passed_notes, passed_status, failed_out}
use Rattle.ev_report.proofs.Finishing.{failed_notes}
use Rattle.ev_report.proofs.Gathering.{gathers_more, whole_ended, whole_failed, whole_unended}
use Rattle.ev_report.proofs.Reading.{gives_none}
use Rattle.ev_report.proofs.Silence.{passed_refused, passed_four, holds_none, refused_memory}
use Rattle.ev_report.specs.declared.status.Status.{Status}
use Rattle.ev_report.specs.declared.status.Status.TheVariants as statuses

-- ---- the input

-- `turn` reads returned octets, which may be any
pub record Drains (turn : ℕ) (old new : Source) : Type 0 where
  pub pieces : List (List ℕ)
  pub gives : Gives old new pieces
  pub many : length pieces ≡ turn

pub drains_none : (s : Source) → Drains 0 s s
drains_none s = record { pieces = []; gives = gives_none s; many = refl }

gathered : (turn : ℕ) (s mid : Source) (d : Drains turn s mid) → Gathers turn s mid (concat d.pieces)
gathered turn s mid d = record { pieces = d.pieces; gives = d.gives; many = d.many; is = refl }

module _ (turn : ℕ) (s mid last : Source) (buffer : List ℕ) (d : Drains turn s mid) where
  pub drains_more : (n : ℕ) → Gets mid last buffer (Ok n) → 0 < n → Drains (turn + 1) s last
  drains_more n got some =
      let more = gathers_more turn s mid last (concat d.pieces) buffer (gathered turn s mid d) n got some in
      record { pieces = more.pieces; gives = more.gives; many = more.many }

  pub drained_ended : turn < 2 ^ 40 → 0 < length buffer → Gets mid last buffer (Ok 0) → IsReadOut s last
  drained_ended turns room got = record {
    input = concat d.pieces;
    read = whole_ended turn s mid last (concat d.pieces) buffer (gathered turn s mid d) turns room got;
  }

  pub drained_failed : (failed : device.Device) → turn < 2 ^ 40 → Gets mid last buffer (Err failed)
      → ReadsWhole s last (Err Device)
  drained_failed failed turns got = whole_failed turn s mid last (concat d.pieces) buffer (gathered turn s mid d) failed
      turns got

pub drained_unended : (turn : ℕ) (s mid : Source) → Drains turn s mid → turn ≡ 2 ^ 40 → ReadsWhole s mid (Err Device)
drained_unended turn s mid d turns = whole_unended turn s mid mid (concat d.pieces) [] (gathered turn s mid d) turns

-- ---- configurations, taken from the end of their list

module _ (all left : List EdgeConfig) (config : EdgeConfig) (same : all ≡ left ++ config ∷ [])
    (each : EachConfig all) where
  pub last_config : IsConfig config
  last_config = each config (subst (λ (cs : List EdgeConfig). Contains cs config) (sym same)
      (Contains-append_right left (config ∷ []) config (0, omega arith, refl)))

  pub each_left : EachConfig left
  each_left = λ c k. each c (subst (λ (cs : List EdgeConfig). Contains cs c) (sym same)
      (Contains-append_left left (config ∷ []) c k))

-- ---- a loop that takes the last element first

module _ {A B C : Type 0} (f : A → C) (g : B → C) where
  -- one element more, before those that were taken earlier
  pub one_back : (before all : List A) (x : A) (made made' : List B) (y : B) (whole : List C)
      → all ≡ before ++ x ∷ [] → made' ≡ made ++ y ∷ [] → g y ≡ f x
      → map f all ++ map g (reverse made) ≡ whole → map f before ++ map g (reverse made') ≡ whole
  one_back before all x made made' y whole popped pushed is so_far =
      let rest = map g (reverse made) in
      ap (λ (l : List B). map f before ++ map g (reverse l)) pushed
      ∙ ap (λ (l : List B). map f before ++ map g l) (reverse-append made (y ∷ []))
      ∙ ap (λ (z : C). map f before ++ z ∷ rest) is
      ∙ sym (append_assoc (map f before) (f x ∷ []) rest)
      ∙ ap (λ (l : List C). l ++ rest) (sym (map-append f before (x ∷ [])))
      ∙ ap (λ (l : List A). map f l ++ rest) (sym popped)
      ∙ so_far

  -- all elements, in their order again
  pub all_back : (left : List A) (made made' : List B) (whole : List C) → left ≡ [] → made' ≡ reverse made
      → map f left ++ map g (reverse made) ≡ whole → map g made' ≡ whole
  all_back left made made' whole none reversed is =
      ap (map g) reversed ∙ ap (λ (l : List A). map f l ++ map g (reverse made)) (sym none) ∙ is

-- the elements up to the one at a place, and that one
pub upto : {A : Type 0} (all : List A) (place more : ℕ) (x : A) → more ≡ place + 1 → place < length all
    → x ≡ get_or all place x → take more all ≡ take place all ++ x ∷ []
upto all place more x many within is =
    ap (λ n. take n all) many ∙ take_more all place x within ∙ ap (λ y. take place all ++ y ∷ []) (sym is)

pub upto_end : {A B C : Type 0} (f : A → C) (g : B → C) (all : List A) (many : ℕ) (made : List B) → length all ≡ many
    → made ≡ [] → map f (take many all) ++ map g (reverse made) ≡ map f all
upto_end f g all many made is none =
    ap (λ l. map f (take many all) ++ map g (reverse l)) none ∙ append-nil (map f (take many all))
    ∙ ap (λ n. map f (take n all)) (sym is) ∙ ap (map f) (take-length all)

pub upto_none : {A : Type 0} (all : List A) (many : ℕ) → many ≡ 0 → take many all ≡ []
upto_none all many is = ap (λ n. take n all) is

-- ---- the links of a run

pub map_twice : {A B C : Type 0} (g : B → C) (f : A → B) (xs : List A) → map g (map f xs) ≡ map (λ x. g (f x)) xs
map_twice g f [] = refl
map_twice g f (x ∷ xs) = ap (λ l. g (f x) ∷ l) (map_twice g f xs)

-- an edge over these links sends to its ports' remote ends
pub to_remotes : {I : Type 0} (config : EdgeConfig) (links : List (Link I WireOut)) (ports : List Cable)
    (setup : EdgeSetup WireOut) → setup ≡ setup_of config (map (λ (l : Link I WireOut). l.output) links)
    → map (λ (l : Link I WireOut). destination_of l.output) links ≡ map to_remote ports
    → destinations_of setup ≡ map sends_to (map remote_end ports)
to_remotes {I} config links ports setup is to =
    ap destinations_of is ∙ map_twice destination_of (λ (l : Link I WireOut). l.output) links
    ∙ to ∙ sym (map_twice sends_to remote_end ports)

-- the setups are those of these configurations and sockets
pub are_setups : (incarnation : ℕ) (configs : List EdgeConfig) (all : List Sockets) (setups : List (EdgeSetup WireOut))
    → map (λ (s : EdgeSetup WireOut). s.config) setups ≡ map (begun_of incarnation) configs
    → map destinations_of setups ≡ map (λ (sockets : Sockets). map sends_to (sent_to sockets)) all
    → AreSetupsOf incarnation configs (map sent_to all) setups
are_setups incarnation configs all setups begun to = record {
  begun = begun;
  sends = to ∙ sym (map_twice (map sends_to) sent_to all);
}

-- ---- the texts

min_twice : (a b m : ℕ) → min (min a m + b) m ≡ min (a + b) m
min_twice a b m = grind arith

-- the sum with one edge's sends more
pub lost_more : (ended : List Ended) (place : ℕ) (d : Ended) → place < length ended
    → all_lost (take (place + 1) ended) ≡ min (all_lost (take place ended) + sends_failed (get_or ended place d))
    (2 ^ 64 - 1)
lost_more ended place d within =
    let before = take place ended in
    let one = get_or ended place d in
    ap all_lost (take_more ended place d within)
    ∙ ap (λ n. min n (2 ^ 64 - 1)) (sum_by_push sends_failed before one)
    ∙ sym (min_twice (sum_by sends_failed before) (sends_failed one) (2 ^ 64 - 1))

-- the notes after the alerts
puts_rest : (start notes notes' : End) (alerts text : List ℕ) (told r : Result (Unit {0}) device.Device)
    → Puts start notes alerts told → PutsRest told notes notes' text r → Puts start notes' (alerts ++ text) r
puts_rest start notes notes' alerts text (Ok done) r put rest = puts_behind start notes notes' alerts text r put rest
puts_rest start notes notes' alerts text (Err device) r put rest =
    rw (rest.1, rest.0) put

module _ (ended : List Ended) (system : List ℕ) (is_read : Bool) (out out' notes notes' : End)
    (told r s : Result (Unit {0}) device.Device) where
  pub tells_ended : (status : Status) → IsOpen out → Puts out out' (reports_from 1 ended) r
      → PutsRest told notes notes' (noted_text ended system (all_lost ended)) s
      → status ≡ status_of (((not is_read || list_any link_failed ended) || nat_lt 0 (all_lost ended)) ||
      (not (is_ok r) || not (is_ok s))) (list_any was_out_of_memory ended) false
      → TellsRest told ended system is_read out out' notes notes' status
  tells_ended status out_open written rest is = λ start alerts start_open lines.
      let last = noted_text ended system (all_lost ended) in
      let text = lines_of alerts ++ last in
      let put = puts_rest start notes notes' (lines_of alerts) last told s lines rest in
      let e = (not is_read || list_any link_failed ended) || nat_lt 0 (all_lost ended) in
      let out_of_memory = list_any was_out_of_memory ended in
      record {
        written = put_holds out out' r (reports_from 1 ended) out_open written;
        noted = put_holds start notes' s text start_open put;
        status_is = is ∙ ap (λ x. status_of (e || (x || not (is_ok s))) out_of_memory false)
            (sym (put_failed out out' r (reports_from 1 ended) out_open written))
            ∙ ap (λ x. status_of (e || (has_failed out out' || x)) out_of_memory false)
            (sym (put_failed start notes' s text start_open put));
      }

-- the text of the reason why no edge began
abbrev pub TellsCause : StartError → End → End → Status → Type 0
TellsCause cause notes notes' status =
    MatchOption (start_text cause) ((notes' ≡ notes) × (status ≡ statuses.Memory))
    (λ text. Holds notes notes' text × (status ≡ statuses.Device))

-- the text has an address
pub tells_address : (notes notes' : End) (r : Result (Unit {0}) device.Device) (at : Endpoint) (why : BindError)
    → IsOpen notes → Puts notes notes' (bind_error_text at why) r
    → TellsCause (Unbindable at why) notes notes' statuses.Device
tells_address notes notes' r at why room put = (put_holds notes notes' r (bind_error_text at why) room put, refl)

-- the text has a device
pub tells_device : (notes notes' : End) (r : Result (Unit {0}) device.Device) (name : DeviceName) (why : AttachError)
    → IsOpen notes → Puts notes notes' (no_device_text name why) r
    → TellsCause (Unattached name why) notes notes' statuses.Device
tells_device notes notes' r name why room put = (put_holds notes notes' r (no_device_text name why) room put, refl)

-- the text has no address
pub tells_nothing : (notes : End) → TellsCause Unnamed notes notes statuses.Device
tells_nothing notes = (holds_none notes, refl)

-- no edge began
pub runs_none : (is_asked : Bool) (policy : ThreadPolicy) (config : Config) (cause : StartError) (input : Source)
    (out notes notes' : End) (status : Status)
    → Hinders (all_ends config) (lacks_address config) cause → TellsCause cause notes notes' status
    → RunsEdges is_asked policy config (devices input out notes) (devices input out notes') status
runs_none is_asked policy config (Unbindable at why) input out notes notes' status hinders told = inr (inl (
  refl,
  holds_none out,
  record {
    why = Unbindable at why;
    hinders = hinders;
    text = bind_error_text at why;
    is_text = refl;
    noted = told.0;
    status_is = told.1;
  },
))
runs_none is_asked policy config (Unattached name cause) input out notes notes' status hinders told = inr (inl (
  refl,
  holds_none out,
  record {
    why = Unattached name cause;
    hinders = hinders;
    text = no_device_text name cause;
    is_text = refl;
    noted = told.0;
    status_is = told.1;
  },
))
runs_none is_asked policy config Unnamed input out notes notes' status hinders told = inr (inl (
  refl,
  holds_none out,
  record {
    why = Unnamed;
    hinders = hinders;
    text = [];
    is_text = refl;
    noted = told.0;
    status_is = told.1;
  },
))
runs_none is_asked policy config NoMemory input out notes notes' status hinders told =
    rw told.0 (inl (inr (refused_memory out notes status told.1)))

-- the edges ran with sockets that are bound to the right endpoints
pub begins_bound : (is_asked : Bool) (config : Config) (bound remotes : List (List LinkEnd)) (before after : Devices)
    (status : Status) → Ran is_asked config.edges.items bound remotes before after status → bound ≡ endpoints_of config
    → remotes ≡ all_remotes config.links.items → lacks_address config ≡ false
    → Begins is_asked config before after status
begins_bound is_asked config bound remotes before after status ran same to whole =
    let edges = config.edges.items in
    inl (
      whole,
      subst (λ (ends : List (List LinkEnd)). Ran is_asked edges (endpoints_of config) ends before after status) to
          (subst (λ (ends : List (List LinkEnd)). Ran is_asked edges ends remotes before after status) same ran),
    )

-- the memory with which the edges begin was refused
pub begins_refused : (is_asked : Bool) (config : Config) (input input' : Source) (out out' notes notes' : End)
    → out' ≡ out → notes' ≡ notes
    → Begins is_asked config (devices input out notes) (devices input' out' notes') statuses.Memory
begins_refused is_asked config input input' out out' notes notes' a b =
    rw (a, b) (inr (refused_memory out notes statuses.Memory refl))

-- the system allows too few threads: no edge began, or the edges began all the same
pub runs_few : (is_asked : Bool) (policy : ThreadPolicy) (config : Config) (lack : TooFewThreads) (input : Source)
    (out notes notes' : End) (status : Status) → IsTooFew (threads_of is_asked config.edges.items) lack
    → StopsBy policy lack notes notes' (Some status)
    → RunsEdges is_asked policy config (devices input out notes) (devices input out notes') status
runs_few is_asked policy config lack input out notes notes' status few stops =
    inr (inr (inl (lacks_threads config.edges.items is_asked policy lack input out notes notes' status few stops)))

pub runs_short : (is_asked : Bool) (policy : ThreadPolicy) (config : Config) (lack : TooFewThreads) (input : Source)
    (out notes notes' : End) (after : Devices) (status : Status)
    → IsTooFew (threads_of is_asked config.edges.items) lack → StopsBy policy lack notes notes' None
    → Begins is_asked config (devices input out notes') after status
    → RunsEdges is_asked policy config (devices input out notes) after status
runs_short is_asked policy config lack input out notes notes' after status few stops begins =
    inr (inr (inr (record {
      allowed = stops.1;
      lack = lack;
      few = few;
      begins = subst (λ (e : End). Begins is_asked config (devices input out e) after status) stops.0 begins;
    })))

-- ---- buffered writers

module _ (is_asked : Bool) (config : Config) (before held after : Devices) (status last : Status)
    (p : Passes before.out.failures before.notes.failures held after status last) where
  passed_ended : (alerts : List Told) (ended : List Ended) (system : List ℕ) (is_read : Bool)
      → TellsEnded alerts ended system is_read before.out held.out before.notes held.notes status
      → TellsEnded alerts ended system is_read before.out after.out before.notes after.notes last
  passed_ended alerts ended system is_read t =
      let text = reports_from 1 ended in
      let lost = lines_of alerts ++ noted_text ended system (all_lost ended) in
      record {
        written = passed_out before held after status last p text t.written;
        noted = passed_notes before held after status last p lost t.noted;
        status_is = passed_status before held after status last p
            ((not is_read || list_any link_failed ended) || nat_lt 0 (all_lost ended))
            (list_any was_out_of_memory ended) false (failed_out before held after status last p text t.written)
            (failed_notes before held after status last p lost t.noted) t.status_is;
      }

  passed_start_error : IsStartError config before.notes held.notes status
      → IsStartError config before.notes after.notes last
  passed_start_error u = record {
    why = u.why;
    hinders = u.hinders;
    text = u.text;
    is_text = u.is_text;
    noted = passed_notes before held after status last p u.text u.noted;
    status_is = passed_four before held after status last p u.status_is;
  }

  passed_ran : (configs : List EdgeConfig) (sockets remotes : List (List LinkEnd))
      → Ran is_asked configs sockets remotes before held status → Ran is_asked configs sockets remotes before after last
  passed_ran configs sockets remotes r = record {
    is_read = r.is_read;
    read = subst (λ (s : Source). ReadsOut before.input s r.is_read) (sym p.input) r.read;
    incarnation = r.incarnation;
    unasked = r.unasked;
    setups = r.setups;
    are = r.are;
    ended = r.ended;
    all = r.all;
    each = r.each;
    history = r.history;
    runs = r.runs;
    alerts = r.alerts;
    table = r.table;
    told = passed_ended r.alerts r.ended (system_text r.table sockets) r.is_read r.told;
  }

  passed_begins : Begins is_asked config before held status → Begins is_asked config before after last
  passed_begins (inl r) = inl (
    r.0,
    passed_ran config.edges.items (endpoints_of config) (all_remotes config.links.items) r.1,
  )
  passed_begins (inr h) = inr (passed_refused before held after status last p h)

module _ (is_asked : Bool) (policy : ThreadPolicy) (config : Config) (before held after : Devices)
    (status last : Status)
    (p : Passes before.out.failures before.notes.failures held after status last) where
  pub passed_runs : RunsEdges is_asked policy config before held status
      → RunsEdges is_asked policy config before after last
  passed_runs (inl b) = inl (passed_begins is_asked config before held after status last p b)
  passed_runs (inr (inl h)) = inr (inl (
    p.input ∙ h.0,
    passed_out before held after status last p [] h.1,
    passed_start_error is_asked config before held after status last p h.2,
  ))
  passed_runs (inr (inr (inl h))) =
      inr (inr (inl (passed_few is_asked policy config.edges.items before held after status last p h)))
  passed_runs (inr (inr (inr h))) = inr (inr (inr (record {
    allowed = h.allowed;
    lack = h.lack;
    few = h.few;
    begins = passed_begins is_asked config
        (devices before.input before.out (with_text before.notes (too_few_text h.lack))) held after status last p
        h.begins;
  })))
