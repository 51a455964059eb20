-- Facts at one end of a call: at `Ok`, or at `Err`.
use Rattle.std.specs.Prelude.{Result, Ok, Err, OnOk, OnErr}

pub on_err : {T E : Type 0} (r : Result T E) (P : Type 0) → P → OnErr r P
on_err (Ok x) P so = tt
on_err (Err e) P so = so

pub on_ok : {T E : Type 0} (r : Result T E) (P : Type 0) → P → OnOk r P
on_ok (Ok x) P so = so
on_ok (Err e) P so = tt

pub on_ok_map : {T E : Type 0} (r : Result T E) (P Q : Type 0) → (P → Q) → OnOk r P → OnOk r Q
on_ok_map (Ok x) P Q f so = f so
on_ok_map (Err e) P Q f so = tt

pub on_ok_three : {T E : Type 0} (r : Result T E) (P Q R S : Type 0) → (P → Q → R → S) → OnOk r P → OnOk r Q → OnOk r R → OnOk r S
on_ok_three (Ok x) P Q R S f p q r = f p q r
on_ok_three (Err e) P Q R S f p q r = tt
