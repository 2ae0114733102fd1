pub mod PriorityLemmas
