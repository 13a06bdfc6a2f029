pub mod PairElementLemmas
