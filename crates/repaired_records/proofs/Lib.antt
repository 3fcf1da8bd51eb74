pub mod ItemsAgree
