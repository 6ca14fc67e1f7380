-- A server on all that it is handed: the hands of its passes stand first, those of its workers behind them, and the others last;
-- the rows of its workers' links stand first, too.
use Rattle.std.proofs.Common.{◌≡◌, inl, inr, ℕ, ◌+◌, ◌*◌, ◌||◌, Bool, List, [], ◌∷◌, ◌++◌, All, map, drop, take, length, length-append, append_assoc, Option, Some, refl, sym, ◌∙◌, ap, subst, arith}
use Rattle.std.specs.List.{AllZip, flat_map, list_any}
use Rattle.std.specs.Global.{Vec}
use Rattle.std.proofs.lemmas.List.{length-map}
use Rattle.std.proofs.lemmas.List.Elements.{All-nil, All-cons, All-head, All-tail}
use Rattle.federation.specs.Link.{ShownLink}
use Rattle.find_client.specs.Cache.{ShownCache}
use Rattle.http_wire.specs.Door.{ShownDoor}
use Rattle.http_wire.specs.Stream.{ShownStream}
use Rattle.index_keeper.specs.Store.{ShownStore}
use Rattle.index_rows.specs.declared.change.Change.{Change}
use Rattle.index_state.specs.Opening.{current, puts_of}
use Rattle.dbgd_metrics.specs.Shares.{BookFacts, ShareFacts}
use Rattle.lock_crew.proofs.Zips.{front_all}
use Rattle.conn_server.specs.Doors.{said_at}
use Rattle.conn_server.specs.Stage.{ConnSetting}
use Rattle.conn_server.specs.Tallied.{HasRowIn}
use Rattle.conn_server.specs.declared.door.DoorEnd.{DoorEnd}
use Rattle.conn_server.specs.declared.door.DoorEnd.TheVariants as end
use Rattle.tree_trait.specs.declared.clock.Waited.{Waited}
use Rattle.dbgd_commands.specs.Endings.{EndsCut, EndsWhole, Gets, Streams}
use Rattle.dbgd_commands.specs.Scan.{Scans}
use Rattle.dbgd_commands.specs.ScanSaid.{refusal_saying}
use Rattle.dbgd_commands.specs.Stage.{LeavesRest, Setting, command_stage, rows_shown, stage}
use Rattle.dbgd_commands.specs.declared.scan_end.ScanEnd.TheVariants as scanned
use Rattle.dbgd_commands.specs.declared.status.Status.{Status}
use Rattle.dbgd_commands.specs.declared.status.Status.TheVariants as status
use Rattle.dbgd_commands.proofs.HandLemmas.{hands_stay}
use Rattle.dbgd_run.specs.Rounds.{pass_stage}
use Rattle.dbgd_run.specs.Serve.{MakesRound, RunsServe, ServeWords, scope_in, served, served_setting, unopened, unserved}
use Rattle.dbgd_run.specs.ServeSaid.{SaysServeEnd, door_line, door_lines, end_line, ended_badly, has_cut, has_failed, is_any_failed, served_status, serving_line, serving_saying, wants_line}
use Rattle.dbgd_run.specs.Serving.{LeavesCrew, ServeStage, ServesStore, serve_setting}
use Rattle.dbgd_run.specs.Workers.{AreWorkers, IsFreshShare, ServedBy, WorkerFacts, WorkerServed, doors_at, ends_at, hands_at, links_at, shares_at, worker_in, workers_at}
use Rattle.dbgd_run.specs.declared.line_fate.LineFate.{LineFate}
use Rattle.dbgd_run.specs.declared.worker.Worker.{Worker}
use Rattle.dbgd_run.specs.declared.serve_end.ServeEnd.{ServeEnd}
use Rattle.dbgd_run.specs.declared.serve_end.ServeEnd.TheVariants.{Refused, Unannounced, Unlocked, Served}

-- lists

map_twice : {A B C : Type 0} (f : B → C) (g : A → B) (xs : List A) → map f (map g xs) ≡ map (λ x. f (g x)) xs
map_twice f g [] = refl
map_twice f g (x ∷ xs) = ap (λ ys. f (g x) ∷ ys) (map_twice f g xs)

pub front_all_of : {A : Type 0} (xs ys : List A) → take (length xs) (xs ++ ys) ≡ xs
front_all_of xs ys = front_all (length xs) xs ys refl

behind_front : {A : Type 0} (xs ys : List A) → drop (length xs) (xs ++ ys) ≡ ys
behind_front [] ys = refl
behind_front (x ∷ xs) ys = behind_front xs ys

-- of a list of which something is made: what is made of its front, and of what stands behind that
front_mapped : {A B : Type 0} (f : A → B) (xs ys : List A) → take (length xs) (map f (xs ++ ys)) ≡ map f xs
front_mapped f [] ys = refl
front_mapped f (x ∷ xs) ys = ap (λ zs. f x ∷ zs) (front_mapped f xs ys)

behind_mapped : {A B : Type 0} (f : A → B) (xs ys : List A) → drop (length xs) (map f (xs ++ ys)) ≡ map f ys
behind_mapped f [] ys = refl
behind_mapped f (x ∷ xs) ys = behind_mapped f xs ys

-- a fresh share has its row
has_row : (book : BookFacts) (share : ShareFacts) → IsFreshShare book share → HasRowIn book share
has_row book share is = (is.of_book, is.fresh.row)

pub places_have_rows : {T D L : Type 0} (book : BookFacts) (workers : List (Worker T D L)) → All (IsFreshShare book) (shares_at workers)
    → All (λ (worker : Worker T D L). HasRowIn book worker.share) workers
places_have_rows {T} {D} {L} book [] all = All-nil (λ (worker : Worker T D L). HasRowIn book worker.share)
places_have_rows {T} {D} {L} book (p ∷ workers) all =
    All-cons (λ (worker : Worker T D L). HasRowIn book worker.share) p workers
    (has_row book p.share (All-head (IsFreshShare book) p.share (shares_at workers) all))
    (places_have_rows book workers (All-tail (IsFreshShare book) p.share (shares_at workers) all))

-- the line of a door and whether it failed are those of the end of its serving
line_at : (why : DoorEnd) → end_line (Some why) ≡ door_line (Some (said_at why))
line_at end.Closed = refl
line_at end.Failed = refl

bad_at : (why : DoorEnd) → ended_badly (Some why) ≡ has_failed (Some (said_at why))
bad_at end.Closed = refl
bad_at end.Failed = refl

module _ {T D L : Type 0} (sc : ConnSetting T) (sees : D → ShownDoor) (views : L → ShownLink) (first last : List Change) where
  served_workers : (workers left : List (Worker T D L)) → AllZip (WorkerServed sc sees views first last) workers left
      → AllZip (ServedBy sc first last) (workers_at sees views workers) (workers_at sees views left)
  served_workers [] [] all = tt
  served_workers [] (p ∷ left) all = absurd all
  served_workers (p ∷ workers) [] all = absurd all
  served_workers (p ∷ workers) (q ∷ left) all = (all.0.by, served_workers workers left all.1)

  lines_of_doors : (workers left : List (Worker T D L)) → AllZip (WorkerServed sc sees views first last) workers left
      → flat_map end_line (ends_at left) ≡ door_lines (map sees (doors_at left))
  lines_of_doors [] [] all = refl
  lines_of_doors [] (p ∷ left) all = absurd all
  lines_of_doors (p ∷ workers) [] all = absurd all
  lines_of_doors (p ∷ workers) (q ∷ left) all =
      ap (λ (o : Option DoorEnd). end_line o ++ flat_map end_line (ends_at left)) all.0.kept
      ∙ ap (λ (line : List ℕ). line ++ flat_map end_line (ends_at left))
      (line_at all.0.by.ran.end ∙ ap door_line (sym all.0.by.ran.serves.ends.last))
      ∙ ap (λ (rest : List ℕ). door_line (sees q.door).last ++ rest) (lines_of_doors workers left all.1)

  failed_of_doors : (workers left : List (Worker T D L)) → AllZip (WorkerServed sc sees views first last) workers left
      → list_any ended_badly (ends_at left) ≡ is_any_failed (map sees (doors_at left))
  failed_of_doors [] [] all = refl
  failed_of_doors [] (p ∷ left) all = absurd all
  failed_of_doors (p ∷ workers) [] all = absurd all
  failed_of_doors (p ∷ workers) (q ∷ left) all =
      ap (λ (o : Option DoorEnd). ended_badly o || list_any ended_badly (ends_at left)) all.0.kept
      ∙ ap (λ (b : Bool). b || list_any ended_badly (ends_at left)) (bad_at all.0.by.ran.end ∙ ap has_failed (sym all.0.by.ran.serves.ends.last))
      ∙ ap (λ (b : Bool). has_failed (sees q.door).last || b) (failed_of_doors workers left all.1)

module _ {T D L : Type 0} (sees : D → ShownDoor) (views : L → ShownLink) where
  -- workers have their hands, their doors and their rows of links
  are_workers : (workers : List (Worker T D L))
      → AreWorkers (hands_at workers) (map sees (doors_at workers)) (rows_shown views (links_at workers)) (workers_at sees views workers)
  are_workers workers = record {
    hands = map_twice (λ (worker : WorkerFacts T). worker.hand) (worker_in sees views) workers;
    doors =
        map_twice (λ (worker : WorkerFacts T). worker.door) (worker_in sees views) workers
        ∙ sym (map_twice sees (λ (worker : Worker T D L). worker.door) workers);
    links =
        map_twice (λ (worker : WorkerFacts T). worker.links) (worker_in sees views) workers
        ∙ sym (map_twice (λ (row : Vec L). map views row.items) (λ (worker : Worker T D L). worker.links) workers);
  }

  fresh_workers : (book : BookFacts) (workers : List (Worker T D L)) → All (IsFreshShare book) (shares_at workers)
      → All (λ (worker : WorkerFacts T). IsFreshShare book worker.share) (workers_at sees views workers)
  fresh_workers book [] all = All-nil (λ (worker : WorkerFacts T). IsFreshShare book worker.share)
  fresh_workers book (p ∷ workers) all =
      All-cons (λ (worker : WorkerFacts T). IsFreshShare book worker.share) (worker_in sees views p) (workers_at sees views workers)
      (All-head (IsFreshShare book) p.share (shares_at workers) all)
      (fresh_workers book workers (All-tail (IsFreshShare book) p.share (shares_at workers) all))

  -- a worker has the links of its row
  linked_workers : (n : ℕ) (workers : List (Worker T D L)) → All (λ (row : Vec L). length row.items ≡ n) (links_at workers)
      → All (λ (worker : WorkerFacts T). length worker.links ≡ n) (workers_at sees views workers)
  linked_workers n [] all = All-nil (λ (worker : WorkerFacts T). length worker.links ≡ n)
  linked_workers n (p ∷ workers) all =
      All-cons (λ (worker : WorkerFacts T). length worker.links ≡ n) (worker_in sees views p) (workers_at sees views workers)
      (length-map p.links.items views ∙ All-head (λ (row : Vec L). length row.items ≡ n) p.links (links_at workers) all)
      (linked_workers n workers (All-tail (λ (row : Vec L). length row.items ≡ n) p.links (links_at workers) all))

-- the hands at a worker of the whole list
module _ {T : Type 0} (n : ℕ) (front mid rest : List T) (long : length front ≡ n + 2) (many : length mid ≡ n) where
  first_hands : take (n + 2) (front ++ (mid ++ rest)) ≡ front
  first_hands = ap (λ (k : ℕ). take k (front ++ (mid ++ rest))) (sym long) ∙ front_all_of front (mid ++ rest)

  behind_first : drop (n + 2) (front ++ (mid ++ rest)) ≡ mid ++ rest
  behind_first = ap (λ (k : ℕ). drop k (front ++ (mid ++ rest))) (sym long) ∙ behind_front front (mid ++ rest)

  worker_hands : take n (drop (n + 2) (front ++ (mid ++ rest))) ≡ mid
  worker_hands =
      ap (take n) behind_first ∙ (ap (λ (k : ℕ). take k (mid ++ rest)) (sym many) ∙ front_all_of mid rest)

  other_hands : drop (n * 2 + 2) (front ++ (mid ++ rest)) ≡ rest
  other_hands =
      let sum = length-append front mid in
      ap (λ (k : ℕ). drop k (front ++ (mid ++ rest))) (omega (arith, sum, long, many))
      ∙ (ap (drop (length (front ++ mid))) (sym (append_assoc front mid rest)) ∙ behind_front (front ++ mid) rest)

-- the rows of links at a worker of all rows
module _ {L : Type 0} (views : L → ShownLink) (n : ℕ) (rows others : List (Vec L)) (many : length rows ≡ n) where
  worker_rows : take n (rows_shown views (rows ++ others)) ≡ rows_shown views rows
  worker_rows =
      ap (λ (k : ℕ). take k (rows_shown views (rows ++ others))) (sym many)
      ∙ front_mapped (λ (row : Vec L). map views row.items) rows others

  other_rows : drop n (rows_shown views (rows ++ others)) ≡ rows_shown views others
  other_rows =
      ap (λ (k : ℕ). drop k (rows_shown views (rows ++ others))) (sym many)
      ∙ behind_mapped (λ (row : Vec L). map views row.items) rows others

-- the workers where they stand among all hands and all rows
module _ {T D L : Type 0} (sees : D → ShownDoor) (views : L → ShownLink) (n : ℕ) (front : List T) (workers : List (Worker T D L)) (rest : List T) (others : List (Vec L)) (many : length workers ≡ n) where
  many_hands : length (hands_at workers) ≡ n
  many_hands = length-map workers (λ (worker : Worker T D L). worker.hand) ∙ many

  many_rows : length (links_at workers) ≡ n
  many_rows = length-map workers (λ (worker : Worker T D L). worker.links) ∙ many

  stand_among : length front ≡ n + 2
      → AreWorkers (take n (drop (n + 2) (front ++ (hands_at workers ++ rest)))) (map sees (doors_at workers))
      (take n (rows_shown views (links_at workers ++ others))) (workers_at sees views workers)
  stand_among long =
      subst (λ (shown : List (List ShownLink)). AreWorkers (take n (drop (n + 2) (front ++ (hands_at workers ++ rest)))) (map sees (doors_at workers)) shown (workers_at sees views workers))
      (sym (worker_rows views n (links_at workers) others many_rows))
      (subst (λ (hands : List T). AreWorkers hands (map sees (doors_at workers)) (rows_shown views (links_at workers)) (workers_at sees views workers))
      (sym (worker_hands n front (hands_at workers) rest long many_hands)) (are_workers sees views workers))

module _ {T D L : Type 0} (s : Setting T) (words : ServeWords) (sees : D → ShownDoor) (views : L → ShownLink) (front rest : List T) (others : List (Vec L)) (old new : ShownStore) (woke : Option (List Waited)) (cache : ShownCache) (before after_streams : Streams) (share : ShareFacts) (book : BookFacts) (workers : List (Worker T D L)) (after : ServeStage T D L) (code : Status) where
  -- hands that came back as they were
  hands_back : LeavesCrew (pass_stage [] front woke before share) workers after
      → after.hands ++ (hands_at after.workers ++ rest) ≡ front ++ (hands_at workers ++ rest)
  hands_back same = rw (same.0, same.2) refl

  -- doors, rows of links and waits that came back as they were
  rest_back : LeavesCrew (pass_stage [] front woke before share) workers after
      → LeavesRest (stage (command_stage (front ++ (hands_at workers ++ rest)) old before) (map sees (doors_at workers)) (rows_shown views (links_at workers ++ others)) woke cache)
      (stage (command_stage (after.hands ++ (hands_at after.workers ++ rest)) new after_streams) (map sees (doors_at after.workers)) (rows_shown views (links_at after.workers ++ others)) after.woke cache)
  rest_back same = rw (same.1, same.2) (record { doors = refl; links = refl; woke = refl; cache = refl })

  pub runs_serve : (how : ServeEnd) → length front ≡ words.workers + 2 → length workers ≡ words.workers
      → length after.hands ≡ words.workers + 2 → length after.workers ≡ words.workers → All (IsFreshShare book) (shares_at workers) → IsFreshShare book share
      → book.rows ≡ words.workers + 1 → All (λ (row : Vec L). length row.items ≡ length words.upstream) (links_at workers)
      → ServesStore (serve_setting s (scope_in words) words.secs (served_setting s words) sees views) words.path
      (serving_line words.port words.workers) old new (pass_stage [] front woke before share) workers how after
      → SaysServeEnd how (ends_at after.workers) after.streams after_streams code
      → RunsServe s words (stage (command_stage (front ++ (hands_at workers ++ rest)) old before) (map sees (doors_at workers)) (rows_shown views (links_at workers ++ others)) woke cache)
      (stage (command_stage (after.hands ++ (hands_at after.workers ++ rest)) new after_streams) (map sees (doors_at after.workers)) (rows_shown views (links_at after.workers ++ others)) after.woke cache) code
  runs_serve (Refused fault) long many back count fresh own sized linked store said = unopened fault (record {
    scans =
        let sum = length-append front (hands_at workers ++ rest) in
        subst (λ (hands : List T). Scans s words.path (scope_in words) (front ++ (hands_at workers ++ rest)) hands old new (scanned.Refused fault))
        (sym (hands_back store.same))
        (record {
          ends = record { hands = refl; store = store.scans.ends.store };
          loads = tt;
          hands = hands_stay s.tells_files s.world.version s.sees (front ++ (hands_at workers ++ rest)) (omega (arith, sum, long)) (λ e. absurd (cc));
          store = store.scans.store;
          later = store.scans.later;
          opened = store.scans.opened;
          opens = store.scans.opens;
        });
    said = subst (λ (shown : Streams). EndsWhole (refusal_saying fault) shown after_streams code) store.quiet said;
    rest = rest_back store.same;
  })
  runs_serve Unannounced long many back count fresh own sized linked store said = unserved (record {
    found = store.found;
    held = store.held;
    has = store.has;
    made = store.made;
    store = store.store;
    hands = hands_back store.same;
    said = inl (subst (λ (e : Status). EndsCut (serving_saying words.port words.workers) before after_streams e) (sym said.1) (subst (λ (shown : Streams). EndsCut (serving_saying words.port words.workers) before shown status.Fault) (sym said.0) store.says));
    rest = rest_back store.same;
  })
  runs_serve Unlocked long many back count fresh own sized linked store said = unserved (record {
    found = store.found;
    held = store.held;
    has = store.has;
    made = store.made;
    store = store.store;
    hands = hands_back store.same;
    said = inr (record { told = after.streams; line = store.says; wants = said });
    rest = rest_back store.same;
  })
  runs_serve (Served fate how broken) long many back count fresh own sized linked store said =
      let from = store.serves in
      let n = words.workers in
      let begin_hands = many_hands sees views n front workers rest others many in
      let end_hands = many_hands sees views n after.hands after.workers rest others count in
      let begin_rows = many_rows sees views n front workers rest others many in
      let end_rows = many_rows sees views n after.hands after.workers rest others count in served (record {
        found = store.found;
        held = store.held;
        broken = broken;
        log = store.log;
        logs = store.logs;
        store = store.store;
        told = store.told;
        line = store.says;
        book = book;
        sized = sized;
        share = share;
        fresh = own;
        first = from.first;
        made =
            subst (λ (hands : List T). MakesRound s (scope_in words) (pass_stage (puts_of (current store.found)) hands woke store.told share) from.first)
            (sym (first_hands n front (hands_at workers) rest long begin_hands)) from.made;
        passed = from.passed;
        workers = workers_at sees views workers;
        workers_are = stand_among sees views n front workers rest others many long;
        shares = fresh_workers sees views book workers fresh;
        linked = linked_workers sees views (length words.upstream) workers linked;
        left = workers_at sees views after.workers;
        left_are = stand_among sees views n after.hands after.workers rest others count back;
        doors = served_workers (served_setting s words) sees views from.first.after.log store.log workers after.workers from.doors;
        how = how;
        last = from.last;
        passes = from.passes;
        within = from.within;
        hands = first_hands n after.hands (hands_at after.workers) rest back end_hands ∙ from.hands;
        others =
            other_hands n after.hands (hands_at after.workers) rest back end_hands
            ∙ sym (other_hands n front (hands_at workers) rest long begin_hands);
        other_links =
            other_rows views n (links_at after.workers) others end_rows
            ∙ sym (other_rows views n (links_at workers) others begin_rows);
        woke = from.woke;
        cache = refl;
        out = said.out ∙ ap (λ (x : Streams). x.out) from.streams;
        err =
            subst (λ (shown : ShownStream). Gets (door_lines (map sees (doors_at after.workers))) shown after_streams.err)
            (ap (λ (x : Streams). x.err) from.streams)
            (subst (λ (bytes : List ℕ). Gets bytes after.streams.err after_streams.err)
            (lines_of_doors (served_setting s words) sees views from.first.after.log store.log workers after.workers from.doors) said.err);
        ends =
            said.status_is
            ∙ (ap (λ (b : Bool). served_status (wants_line fate how) (has_cut fate how || (b || broken)))
            (failed_of_doors (served_setting s words) sees views from.first.after.log store.log workers after.workers from.doors)
            ∙ ap (λ (f : LineFate). served_status (wants_line f how) (has_cut f how || (is_any_failed (map sees (doors_at after.workers)) || broken)))
            (sym from.fate_is));
      })
